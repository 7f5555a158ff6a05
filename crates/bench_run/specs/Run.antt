-- A module that is generated, and the counts of a run of a module.
use Rattle.std.specs.Prelude.{ℕ, List}
use Rattle.elf_build.specs.declared.plan.Plan.{Plan}
use Rattle.elf_build.specs.File.{file_of}
use Rattle.elf_build.specs.Generated.{IsGenerated}
use Rattle.generated_module.specs.Accepted.{elf_of}
use Rattle.module_image.specs.Module.{IsModule, Module}
use Rattle.run_journal.specs.declared.event.Event.{Event}
use Rattle.script_text.specs.Script.{ScriptValue}
use Rattle.switching.specs.Choice.{IsChosen, first_chooser}
use Rattle.switching.specs.State.{first}
use Rattle.bench_run.specs.declared.counts.Counts.{Counts}
use Rattle.bench_run.specs.Counts.{AreCounts}

-- the module of the file that is written of the plan with n blocks
pub record IsOfBlocks (n : ℕ) (m : Module) : Type 0 where
  pub plan : Plan
  pub generated : IsGenerated n plan
  pub is_module : IsModule (elf_of (file_of plan)) m

-- the counts of the run that a seed chooses
pub record IsRun (m : Module) (script : ScriptValue) (seed : ℕ) (n : Counts) : Type 0 where
  pub events : List Event
  pub chosen : IsChosen m (first_chooser m script seed) events
  pub are : AreCounts m (first m script) events n
