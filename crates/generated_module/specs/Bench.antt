-- A script that is read in every module that is generated.
use Rattle.std.specs.Prelude.{◌≡◌, ◌≤◌, ℕ, true, false, List, [], ◌∷◌, ◌++◌, codes, Ok}
use Rattle.elf_build.specs.declared.plan.Plan.{Plan}
use Rattle.elf_build.specs.File.{file_of}
use Rattle.elf_build.specs.Generated.{IsGenerated, fb, main}
use Rattle.module_parts.specs.declared.command.Command.TheVariants.{Inc, Dec, Target, TraceAll}
use Rattle.module_image.specs.Module.{IsModule, Module}
use Rattle.script_text.specs.declared.script.ScriptStep.{ScriptStep}
use Rattle.script_text.specs.declared.script.ScriptStep.TheVariants.{Run, Update}
use Rattle.script_text.specs.Script.{ScriptValue, script}
use Rattle.generated_module.specs.Accepted.{elf_of}

-- a line, with the line feed that ends it
abbrev pub line : List ℕ → List ℕ
line bytes = bytes ++ 10 ∷ []

-- two processors; runs before, between and after updates of all four keys and of all trace sites
unfoldable pub bench_script : List ℕ
bench_script =
    line (codes "cpu main") ++ line (codes "cpu main") ++ line (codes "run 100") ++ line (codes "inc jk0") ++ line (codes "trace *")
    ++ line (codes "run 100") ++ line (codes "call ca fb") ++ line (codes "call cb -") ++ line (codes "dec jk1") ++ line (codes "untrace *")
    ++ line (codes "call ca -") ++ line (codes "run 100")

-- what it says: the keys of jumps are the first, jk0 and jk1, then come those of calls, ca and cb
abbrev pub bench_steps : List ScriptStep
bench_steps =
    Run 100 ∷ Update (Inc 0) ∷ Update (TraceAll true) ∷ Run 100 ∷ Update (Target 2 fb) ∷ Update (Target 3 0) ∷ Update (Dec 1)
    ∷ Update (TraceAll false) ∷ Update (Target 2 0) ∷ Run 100 ∷ []

-- with two starts in the function with the blocks
abbrev pub bench_value : ScriptValue
bench_value = record { entries = main ∷ main ∷ []; steps = bench_steps }

-- it says so in every module that is accepted of the file of the plan of 10 to 1,000 blocks
abbrev pub BenchScriptsAreRead : Type 0
BenchScriptsAreRead =
    (n : ℕ) (plan : Plan) (m : Module) → 10 ≤ n → n ≤ 1000 → IsGenerated n plan → IsModule (elf_of (file_of plan)) m
    → script m bench_script ≡ Ok bench_value
