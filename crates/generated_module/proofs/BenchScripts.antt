-- The script of a bench is read, line by line, in a module whose names stand for what they do in a generated one.
use Rattle.std.proofs.Common.{◌≡◌, ◌≤◌, ◌+◌, ◌∙◌, ℕ, List, [], ◌∷◌, take, codes, Some, Result, Ok, refl, ap}
use Rattle.poke_base.specs.Text.{words}
use Rattle.elf_build.specs.declared.plan.Plan.{Plan}
use Rattle.elf_build.specs.File.{file_of}
use Rattle.elf_build.specs.Generated.{IsGenerated, main, text_of}
use Rattle.elf_build.proofs.Generates.{generated-fits}
use Rattle.written_module.proofs.ReadBack.{reads-back}
use Rattle.module_image.specs.Module.{IsModule, Module}
use Rattle.module_names.specs.Names.{value_of}
use Rattle.script_text.specs.declared.refused.ScriptWhy.{ScriptWhy}
use Rattle.script_text.specs.Script.{ScriptValue, empty_script, go_on, read_from, script, taken}
use Rattle.generated_module.specs.Accepted.{elf_of}
use Rattle.generated_module.specs.Bench.{BenchScriptsAreRead, bench_script, bench_steps, bench_value}
use Rattle.generated_module.proofs.Accepting.{first-stands}
use Rattle.generated_module.proofs.FileNames.{call-names, functions-are, functions-below, jump-names}

-- the names that the script has
record HasNames (m : Module) : Type 0 where
  main_is : value_of (codes "main") m.functions ≡ Some 0x40100c
  fb_is : value_of (codes "fb") m.functions ≡ Some 0x401004
  jk0_is : value_of (codes "jk0") m.jump_keys ≡ Some 0
  jk1_is : value_of (codes "jk1") m.jump_keys ≡ Some 1
  ca_is : value_of (codes "ca") m.call_keys ≡ Some 2
  cb_is : value_of (codes "cb") m.call_keys ≡ Some 3

-- what was read so far
abbrev one_cpu : ScriptValue
one_cpu = record { entries = main ∷ []; steps = [] }

abbrev so_far : ℕ → ScriptValue
so_far k = record { entries = main ∷ main ∷ []; steps = take k bench_steps }

-- a line that is taken
next : (m : Module) (n : ℕ) (s more : ScriptValue) (line : List ℕ) (rest : List (List ℕ)) → taken m s (words line) ≡ Ok more → read_from m n s (line ∷ rest) ≡ read_from m (n + 1) more rest
next m n s more line rest is = ap (λ (r : Result ScriptValue ScriptWhy). go_on n r (λ s. read_from m (n + 1) s rest)) is

module _ (m : Module) (has : HasNames m) where
  -- each line is taken after those before it
  first-cpu : taken m empty_script (words (codes "cpu main")) ≡ Ok one_cpu
  first-cpu = rw has.main_is refl

  second-cpu : taken m one_cpu (words (codes "cpu main")) ≡ Ok (so_far 0)
  second-cpu = rw has.main_is refl

  first-run : taken m (so_far 0) (words (codes "run 100")) ≡ Ok (so_far 1)
  first-run = refl

  inc-jump : taken m (so_far 1) (words (codes "inc jk0")) ≡ Ok (so_far 2)
  inc-jump = rw has.jk0_is refl

  trace-all : taken m (so_far 2) (words (codes "trace *")) ≡ Ok (so_far 3)
  trace-all = refl

  second-run : taken m (so_far 3) (words (codes "run 100")) ≡ Ok (so_far 4)
  second-run = refl

  call-first : taken m (so_far 4) (words (codes "call ca fb")) ≡ Ok (so_far 5)
  call-first = rw (has.ca_is, has.fb_is) refl

  call-none : taken m (so_far 5) (words (codes "call cb -")) ≡ Ok (so_far 6)
  call-none = rw has.cb_is refl

  dec-jump : taken m (so_far 6) (words (codes "dec jk1")) ≡ Ok (so_far 7)
  dec-jump = rw has.jk1_is refl

  untrace-all : taken m (so_far 7) (words (codes "untrace *")) ≡ Ok (so_far 8)
  untrace-all = refl

  call-no-more : taken m (so_far 8) (words (codes "call ca -")) ≡ Ok (so_far 9)
  call-no-more = rw has.ca_is refl

  last-run : taken m (so_far 9) (words (codes "run 100")) ≡ Ok (so_far 10)
  last-run = refl

  -- all lines
  read-all : script m bench_script ≡ Ok bench_value
  unfolding bench_script script
  read-all =
      next m 1 empty_script one_cpu (codes "cpu main") (codes "cpu main" ∷ codes "run 100" ∷ codes "inc jk0" ∷ codes "trace *" ∷ codes "run 100" ∷ codes "call ca fb" ∷ codes "call cb -" ∷ codes "dec jk1" ∷ codes "untrace *" ∷ codes "call ca -" ∷ codes "run 100" ∷ []) first-cpu
      ∙ next m 2 one_cpu (so_far 0) (codes "cpu main") (codes "run 100" ∷ codes "inc jk0" ∷ codes "trace *" ∷ codes "run 100" ∷ codes "call ca fb" ∷ codes "call cb -" ∷ codes "dec jk1" ∷ codes "untrace *" ∷ codes "call ca -" ∷ codes "run 100" ∷ []) second-cpu
      ∙ next m 3 (so_far 0) (so_far 1) (codes "run 100") (codes "inc jk0" ∷ codes "trace *" ∷ codes "run 100" ∷ codes "call ca fb" ∷ codes "call cb -" ∷ codes "dec jk1" ∷ codes "untrace *" ∷ codes "call ca -" ∷ codes "run 100" ∷ []) first-run
      ∙ next m 4 (so_far 1) (so_far 2) (codes "inc jk0") (codes "trace *" ∷ codes "run 100" ∷ codes "call ca fb" ∷ codes "call cb -" ∷ codes "dec jk1" ∷ codes "untrace *" ∷ codes "call ca -" ∷ codes "run 100" ∷ []) inc-jump
      ∙ next m 5 (so_far 2) (so_far 3) (codes "trace *") (codes "run 100" ∷ codes "call ca fb" ∷ codes "call cb -" ∷ codes "dec jk1" ∷ codes "untrace *" ∷ codes "call ca -" ∷ codes "run 100" ∷ []) trace-all
      ∙ next m 6 (so_far 3) (so_far 4) (codes "run 100") (codes "call ca fb" ∷ codes "call cb -" ∷ codes "dec jk1" ∷ codes "untrace *" ∷ codes "call ca -" ∷ codes "run 100" ∷ []) second-run
      ∙ next m 7 (so_far 4) (so_far 5) (codes "call ca fb") (codes "call cb -" ∷ codes "dec jk1" ∷ codes "untrace *" ∷ codes "call ca -" ∷ codes "run 100" ∷ []) call-first
      ∙ next m 8 (so_far 5) (so_far 6) (codes "call cb -") (codes "dec jk1" ∷ codes "untrace *" ∷ codes "call ca -" ∷ codes "run 100" ∷ []) call-none
      ∙ next m 9 (so_far 6) (so_far 7) (codes "dec jk1") (codes "untrace *" ∷ codes "call ca -" ∷ codes "run 100" ∷ []) dec-jump
      ∙ next m 10 (so_far 7) (so_far 8) (codes "untrace *") (codes "call ca -" ∷ codes "run 100" ∷ []) untrace-all
      ∙ next m 11 (so_far 8) (so_far 9) (codes "call ca -") (codes "run 100" ∷ []) call-no-more
      ∙ next m 12 (so_far 9) (so_far 10) (codes "run 100") ([]) last-run

-- a generated module has these names
has-names : (n : ℕ) (plan : Plan) (m : Module) → 10 ≤ n → n ≤ 1000 → IsGenerated n plan → IsModule (elf_of (file_of plan)) m → HasNames m
has-names n plan m few many made is =
    let back = reads-back plan (generated-fits n plan many made) in
    let below = functions-below 0x401000 (text_of n) n (first-stands n many) in
    let functions = functions-are n few plan made back in
    let jumps = jump-names n few plan made back below in
    let calls = call-names n few plan made back below in
    record {
      main_is = is.named_functions (codes "main") ∙ ap (value_of (codes "main")) functions;
      fb_is = is.named_functions (codes "fb") ∙ ap (value_of (codes "fb")) functions;
      jk0_is = is.named_jump_keys (codes "jk0") ∙ ap (value_of (codes "jk0")) jumps;
      jk1_is = is.named_jump_keys (codes "jk1") ∙ ap (value_of (codes "jk1")) jumps;
      ca_is = is.named_call_keys (codes "ca") ∙ ap (value_of (codes "ca")) calls;
      cb_is = is.named_call_keys (codes "cb") ∙ ap (value_of (codes "cb")) calls;
    }

pub bench-read : BenchScriptsAreRead
bench-read n plan m few many made is = read-all m (has-names n plan m few many made is)
