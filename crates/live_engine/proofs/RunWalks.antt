-- The walks of a crew are those of the entries of its processors.
use Rattle.std.proofs.Common.{◌≡◌, ℕ, List, [], ◌∷◌, map, subst}
use Rattle.std.specs.List.{AllZip}
use Rattle.live_engine.specs.declared.job.Job.{Job}
use Rattle.live_engine.specs.declared.run.LiveRun.{LiveRun}
use Rattle.live_engine.specs.LivePlan.{IsPlanOf, last_bytes}
use Rattle.live_engine.specs.LiveRun.{IsRunOf}
use Rattle.live_engine.specs.Walks.{IsWalk}
use Rattle.live_text.specs.declared.plan.LivePlan.{LivePlan}
use Rattle.module_image.specs.Module.{Module}
use Rattle.script_text.specs.Script.{ScriptValue}

-- what holds of jobs by their entries holds of the entries
by-entry : {W : Type 0} (R : ℕ → W → Type 0) (jobs : List Job) (walks : List W) → AllZip (λ (job : Job) walk. R job.entry walk) jobs walks → AllZip R (map (λ (job : Job). job.entry) jobs) walks
by-entry R [] [] all = tt
by-entry R [] (walk ∷ walks) all = absurd all
by-entry R (job ∷ jobs) [] all = absurd all
by-entry R (job ∷ jobs) (walk ∷ walks) all = (all.0, by-entry R jobs walks all.1)

pub run-is : (m : Module) (script : ScriptValue) (turns : ℕ) (plan : LivePlan) (jobs : List Job) (run : LiveRun) → IsPlanOf m script plan → map (λ (job : Job). job.entry) jobs ≡ script.entries → AllZip (λ (job : Job) walk. IsWalk m plan job.entry turns walk.items) jobs run.walks.items → run.sites.items ≡ last_bytes plan → IsRunOf m script turns run
run-is m script turns plan jobs run is entries walks sites = record {
  plan = plan;
  is = is;
  walks =
      subst (λ (starts : List ℕ). AllZip (λ entry walk. IsWalk m plan entry turns walk.items) starts run.walks.items) entries
      (by-entry (λ entry walk. IsWalk m plan entry turns walk.items) jobs run.walks.items walks);
  sites = sites;
}
