-- Scripts: the grammar of the whole text, with the first refused line and why.
use Rattle.std.specs.Prelude.{◌&&◌, ℕ, ◌+◌, Bool, true, false, not, nat_le, nat_lt, if◌then◌else◌, List, [], ◌∷◌, ◌++◌, length, map, sum, find, Option, Some, None, Result, Ok, Err}
use Rattle.std.specs.Option.{is_none}
use Rattle.poke_base.specs.Text.{words}
use Rattle.module_image.specs.Module.{Module}
use Rattle.script_text.specs.declared.refused.ScriptWhy.{ScriptWhy}
use Rattle.script_text.specs.declared.refused.ScriptWhy.TheVariants.{Word, NoCpu, LateCpu, Cpus, Number, Name, Updates, Drops, Turns}
use Rattle.script_text.specs.declared.script.ScriptStep.{ScriptStep}
use Rattle.script_text.specs.declared.script.ScriptStep.TheVariants.{Update, Run, Drop}
use Rattle.script_text.specs.Grammar.{Line, line_of, is_cpu}
use Rattle.script_text.specs.Grammar as grammar
use Rattle.script_text.specs.Lines.{lines, is_passed_over}
use Rattle.script_text.specs.Meaning.{Meaning, Starts, Does, meaning, most_turns, place_of, turns_of}

-- where the processors start, in order, and what is done, in order
pub record ScriptValue : Type 0 where
  pub entries : List ℕ
  pub steps : List ScriptStep

abbrev pub empty_script : ScriptValue
empty_script = record { entries = []; steps = [] }

-- the limits of a script
abbrev pub most_cpus : ℕ
most_cpus = 16

abbrev pub most_updates : ℕ
most_updates = 64

abbrev pub most_drops : ℕ
most_drops = 64

-- how many updates and drops there are, and how many turns of processors, all `run` lines together
abbrev pub update_count : ScriptStep → ℕ
update_count (Update command) = 1
update_count (Run turns) = 0
update_count (Drop place) = 0

abbrev pub drop_count : ScriptStep → ℕ
drop_count (Update command) = 0
drop_count (Run turns) = 0
drop_count (Drop place) = 1

abbrev pub turn_count : ScriptStep → ℕ
turn_count (Update command) = 0
turn_count (Run turns) = turns
turn_count (Drop place) = 0

abbrev pub all_updates : List ScriptStep → ℕ
all_updates steps = sum (map update_count steps)

abbrev pub all_drops : List ScriptStep → ℕ
all_drops steps = sum (map drop_count steps)

abbrev pub all_turns : List ScriptStep → ℕ
all_turns steps = sum (map turn_count steps)

-- a list has nothing in it
abbrev pub is_empty : {A : Type 0} → List A → Bool
is_empty [] = true
is_empty (x ∷ xs) = false

-- a number of the line is malformed or out of its range
abbrev pub has_bad_number : Line → Bool
has_bad_number (grammar.Run turns) = is_none (turns_of turns)
has_bad_number (grammar.Drop place) = is_none (place_of place)
has_bad_number _ = false

-- the script with what a line means
abbrev pub with_meaning : ScriptValue → Meaning → ScriptValue
with_meaning s (Starts at) = record s { entries = s.entries ++ at ∷ [] }
with_meaning s (Does step) = record s { steps = s.steps ++ step ∷ [] }

abbrev pub with_any : ScriptValue → Option Meaning → ScriptValue
with_any s None = s
with_any s (Some means) = with_meaning s means

abbrev pub with_line : Module → ScriptValue → Line → ScriptValue
with_line m s line = with_any s (meaning m line)

-- one step more than the limit, of all that the script would have with the line
abbrev pub goes_past : ℕ → (List ScriptStep → ℕ) → Module → ScriptValue → Line → Bool
goes_past most count m s line = nat_lt most (count (with_line m s line).steps)

-- the condition of each refusal of a line after some lines of the script
abbrev pub holds : Module → ScriptValue → Line → ScriptWhy → Bool
holds m s line Word = false
holds m s line LateCpu = is_cpu line && not (is_empty s.steps)
holds m s line NoCpu = not (is_cpu line) && is_empty s.entries
holds m s line Cpus = is_cpu line && nat_le most_cpus (length s.entries)
holds m s line Number = has_bad_number line
holds m s line Name = is_none (meaning m line)
holds m s line Updates = goes_past most_updates all_updates m s line
holds m s line Drops = goes_past most_drops all_drops m s line
holds m s line Turns = goes_past most_turns all_turns m s line

-- the conditions in their order; `Word` comes before them, where the words are no line
abbrev pub order : List ScriptWhy
order = LateCpu ∷ NoCpu ∷ Cpus ∷ Number ∷ Name ∷ Updates ∷ Drops ∷ Turns ∷ []

-- the script with one more line, or the first condition that holds of it
abbrev pub taken_unless : Option ScriptWhy → ScriptValue → Result ScriptValue ScriptWhy
taken_unless None s = Ok s
taken_unless (Some why) s = Err why

abbrev pub taken_line : Module → ScriptValue → Option Line → Result ScriptValue ScriptWhy
taken_line m s None = Err Word
taken_line m s (Some line) = taken_unless (find (holds m s line) order) (with_line m s line)

abbrev pub taken : Module → ScriptValue → List (List ℕ) → Result ScriptValue ScriptWhy
taken m s words = if is_passed_over words then Ok s else taken_line m s (line_of words)

-- the script that lines make from the line with a number on, or the first that is refused; a script without a `cpu` line is
-- refused at one line past its last
abbrev pub finished : ℕ → ScriptValue → Result ScriptValue (ℕ × ScriptWhy)
finished n s = if is_empty s.entries then Err (n, NoCpu) else Ok s

abbrev pub go_on : ℕ → Result ScriptValue ScriptWhy → (ScriptValue → Result ScriptValue (ℕ × ScriptWhy)) → Result ScriptValue (ℕ × ScriptWhy)
go_on n (Err why) next = Err (n, why)
go_on n (Ok s) next = next s

abbrev pub read_from : Module → ℕ → ScriptValue → List (List ℕ) → Result ScriptValue (ℕ × ScriptWhy)
read_from m n s [] = finished n s
read_from m n s (line ∷ rest) = go_on n (taken m s (words line)) (λ s. read_from m (n + 1) s rest)

-- the script that a text is, or the number of its first refused line, counted from 1, and why
unfoldable pub script : Module → List ℕ → Result ScriptValue (ℕ × ScriptWhy)
script m text = read_from m 1 empty_script (lines text)
