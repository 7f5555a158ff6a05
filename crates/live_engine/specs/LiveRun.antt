-- What a live run is, and what its workers keep.
use Rattle.std.specs.Prelude.{◌≡◌, ◌≤◌, ℕ, false, [], vec_capacity}
use Rattle.std.specs.List.{AllZip}
use Rattle.live_text.specs.declared.plan.LivePlan.{LivePlan}
use Rattle.live_text.specs.Own.{IsOwn, TextState}
use Rattle.module_image.specs.Layout.{IsStart}
use Rattle.module_image.specs.Module.{Module, layout_of}
use Rattle.script_text.specs.Script.{ScriptValue}
use Rattle.live_engine.specs.declared.run.LiveRun.{LiveRun}
use Rattle.live_engine.specs.declared.job.Job.{Job}
use Rattle.live_engine.specs.LiveCpu.{new_cpu}
use Rattle.live_engine.specs.LivePlan.{IsPlanOf, last_bytes}
use Rattle.live_engine.specs.Walks.{IsWalk}

-- a run of a script: a walk for each processor, by number, and the bytes of all sites after all updates
pub record IsRunOf (m : Module) (script : ScriptValue) (turns : ℕ) (run : LiveRun) : Type 0 where
  pub plan : LivePlan
  pub is : IsPlanOf m script plan
  pub walks : AllZip (λ entry walk. IsWalk m plan entry turns walk.items) script.entries run.walks.items
  pub sites : run.sites.items ≡ last_bytes plan

-- a processor before its first turn, with room for its walk
pub record IsReady (m : Module) (text : TextState) (turns : ℕ) (job : Job) : Type 0 where
  pub own : IsOwn text job.seat
  pub stays : job.seat.view.cpu.left ≡ false
  pub cpu : job.cpu ≡ new_cpu job.entry
  pub begins : IsStart (layout_of m) job.entry
  pub empty : job.walk.items ≡ []
  pub room : turns ≤ vec_capacity job.walk

-- a processor after its last turn
pub record IsDone (m : Module) (plan : LivePlan) (turns : ℕ) (job : Job) : Type 0 where
  pub walk : IsWalk m plan job.entry turns job.walk.items
