-- The commands, as the words after the program's name give them.
use Rattle.std.specs.Prelude.{◌&&◌, ◌≤◌, ⊤, ℕ, nat_le, if◌then◌else◌, List, [], ◌∷◌, map, codes, String, Option, Some, None, string_bytes, option_map}
use Rattle.std.specs.declared.alloc.Global.{Global}
use Rattle.std.specs.Str.{bytes_eq}
use Rattle.poke_base.specs.Number.{dec_number}
use Rattle.poke_commands.specs.Command.{Row, Plan, Show, Check, Make, Wants, Run, Replay, Bench, Live}
use Rattle.poke_tool.specs.declared.command.Command.{Command}
use Rattle.poke_tool.specs.declared.command.Command.TheVariants.{Plan as WithPlan, Show as WithShow, Check as WithCheck, Make as WithMake, Wants as WithWants, Run as WithRun, Replay as WithReplay, Bench as WithBench, Live as WithLive}

-- the command that the program read
abbrev pub row : Command → Row
row (WithPlan file) = Plan file.now
row (WithShow module_file) = Show module_file.now
row (WithCheck module_file) = Check module_file.now
row (WithMake blocks module_file) = Make blocks module_file.now
row (WithWants module_file script_file) = Wants module_file.now script_file.now
row (WithRun module_file script_file journal_file seed) = Run module_file.now script_file.now journal_file.now seed
row (WithReplay module_file script_file journal_file) = Replay module_file.now script_file.now journal_file.now
row (WithBench blocks seed) = Bench blocks seed
row (WithLive module_file script_file turns seed) = Live module_file.now script_file.now turns seed

-- the words after the program's name
abbrev pub words_of : List (String Global) → List (List ℕ)
words_of words = map string_bytes words

-- the only word after a command's name, its file
abbrev pub one_file : List (List ℕ) → Option (List ℕ)
one_file [] = None
one_file (file ∷ []) = Some file
one_file (file ∷ more ∷ rest) = None

-- the only two words after a command's name, its files
abbrev pub two_files : List (List ℕ) → Option (List ℕ × List ℕ)
two_files [] = None
two_files (file ∷ []) = None
two_files (file ∷ second ∷ []) = Some (file, second)
two_files (file ∷ second ∷ more ∷ rest) = None

-- the only three words after a command's name, its files
abbrev pub three_files : List (List ℕ) → Option (List ℕ × List ℕ × List ℕ)
three_files [] = None
three_files (file ∷ []) = None
three_files (file ∷ second ∷ []) = None
three_files (file ∷ second ∷ third ∷ []) = Some (file, second, third)
three_files (file ∷ second ∷ third ∷ more ∷ rest) = None

-- a number of blocks, 10 to 1,000
abbrev pub in_range : Option ℕ → Option ℕ
in_range None = None
in_range (Some n) = if nat_le 10 n && nat_le n 1000 then Some n else None

abbrev pub block_count : List ℕ → Option ℕ
block_count word = in_range (dec_number word)

-- `make N FILE`
abbrev pub make_row : List (List ℕ) → Option Row
make_row [] = None
make_row (n ∷ []) = None
make_row (n ∷ module_file ∷ []) = option_map (λ n. Make n module_file) (block_count n)
make_row (n ∷ module_file ∷ more ∷ rest) = None

-- `run MODULE SCRIPT JOURNAL SEED`, with a seed below 2^64
abbrev pub run_row : List (List ℕ) → Option Row
run_row [] = None
run_row (module_file ∷ []) = None
run_row (module_file ∷ script_file ∷ []) = None
run_row (module_file ∷ script_file ∷ journal_file ∷ []) = None
run_row (module_file ∷ script_file ∷ journal_file ∷ seed ∷ []) =
    option_map (λ seed. Run module_file script_file journal_file seed) (dec_number seed)
run_row (module_file ∷ script_file ∷ journal_file ∷ seed ∷ more ∷ rest) = None

-- `bench N SEED`
abbrev pub bench_numbers : Option ℕ → Option ℕ → Option Row
bench_numbers None seed = None
bench_numbers (Some n) seed = option_map (λ seed. Bench n seed) seed

abbrev pub bench_row : List (List ℕ) → Option Row
bench_row [] = None
bench_row (n ∷ []) = None
bench_row (n ∷ seed ∷ []) = bench_numbers (block_count n) (dec_number seed)
bench_row (n ∷ seed ∷ more ∷ rest) = None

-- a number of turns, 1 to 100,000
abbrev pub turns_in_range : Option ℕ → Option ℕ
turns_in_range None = None
turns_in_range (Some n) = if nat_le 1 n && nat_le n 100000 then Some n else None

abbrev pub turn_count : List ℕ → Option ℕ
turn_count word = turns_in_range (dec_number word)

-- `live MODULE SCRIPT TURNS SEED`
abbrev pub live_numbers : List ℕ → List ℕ → Option ℕ → Option ℕ → Option Row
live_numbers module_file script_file None seed = None
live_numbers module_file script_file (Some turns) seed = option_map (λ seed. Live module_file script_file turns seed) seed

abbrev pub live_row : List (List ℕ) → Option Row
live_row [] = None
live_row (module_file ∷ []) = None
live_row (module_file ∷ script_file ∷ []) = None
live_row (module_file ∷ script_file ∷ turns ∷ []) = None
live_row (module_file ∷ script_file ∷ turns ∷ seed ∷ []) =
    live_numbers module_file script_file (turn_count turns) (dec_number seed)
live_row (module_file ∷ script_file ∷ turns ∷ seed ∷ more ∷ rest) = None

-- the command that the words are; none for all other words
abbrev pub row_of : List (List ℕ) → Option Row
row_of [] = None
row_of (name ∷ rest) =
    if bytes_eq name (codes "plan") then option_map (λ file. Plan file) (one_file rest)
    else if bytes_eq name (codes "show") then option_map (λ file. Show file) (one_file rest)
    else if bytes_eq name (codes "check") then option_map (λ file. Check file) (one_file rest)
    else if bytes_eq name (codes "make") then make_row rest
    else if bytes_eq name (codes "wants") then option_map (λ files. Wants files.0 files.1) (two_files rest)
    else if bytes_eq name (codes "run") then run_row rest
    else if bytes_eq name (codes "replay") then option_map (λ files. Replay files.0 files.1 files.2) (three_files rest)
    else if bytes_eq name (codes "bench") then bench_row rest
    else if bytes_eq name (codes "live") then live_row rest
    else None

-- the numbers of a command are in their ranges
abbrev pub IsInRange : Command → Type 0
IsInRange (WithPlan file) = ⊤
IsInRange (WithShow module_file) = ⊤
IsInRange (WithCheck module_file) = ⊤
IsInRange (WithMake blocks module_file) = (10 ≤ blocks) × (blocks ≤ 1000)
IsInRange (WithWants module_file script_file) = ⊤
IsInRange (WithRun module_file script_file journal_file seed) = ⊤
IsInRange (WithReplay module_file script_file journal_file) = ⊤
IsInRange (WithBench blocks seed) = (10 ≤ blocks) × (blocks ≤ 1000)
IsInRange (WithLive module_file script_file turns seed) = (1 ≤ turns) × (turns ≤ 100000)
