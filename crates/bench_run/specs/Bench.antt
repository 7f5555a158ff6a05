-- The run of a generated module by a fixed script.
use Rattle.std.specs.Prelude.{ℕ, List}
use Rattle.elf_build.specs.declared.plan.Plan.{Plan}
use Rattle.elf_build.specs.File.{file_of}
use Rattle.elf_build.specs.Generated.{IsGenerated}
use Rattle.generated_module.specs.Accepted.{elf_of}
use Rattle.generated_module.specs.Bench.{bench_value}
use Rattle.module_image.specs.Module.{IsModule, Module}
use Rattle.run_journal.specs.declared.event.Event.{Event}
use Rattle.switching.specs.Choice.{IsChosen, first_chooser}
use Rattle.switching.specs.State.{first}
use Rattle.bench_run.specs.declared.counts.Counts.{Counts}
use Rattle.bench_run.specs.Counts.{AreCounts}

-- the counts of the run that a seed chooses of the module with n blocks
pub record IsBench (n seed : ℕ) (counts : Counts) : Type 0 where
  pub plan : Plan
  pub generated : IsGenerated n plan
  pub m : Module
  pub is_module : IsModule (elf_of (file_of plan)) m
  pub events : List Event
  pub chosen : IsChosen m (first_chooser m bench_value seed) events
  pub are : AreCounts m (first m bench_value) events counts
