-- The walks of the processors of a run, by number.
use Rattle.std.proofs.Common.{◌≡◌, ℕ, List, [], ◌∷◌, map, All, subst}
use Rattle.std.specs.List.{AllZip}
use Rattle.std.proofs.lemmas.List.Elements.{All-head, All-tail}
use Rattle.live_text.specs.declared.plan.LivePlan.{LivePlan}
use Rattle.module_image.specs.Module.{Module}
use Rattle.live_engine.specs.declared.job.Job.{Job}
use Rattle.live_engine.specs.LiveRun.{IsDone}
use Rattle.live_engine.specs.Walks.{IsWalk}

-- each job that was done is that of the same entry, so its walk is one from there
pub walks-done : (m : Module) (plan : LivePlan) (turns : ℕ) (jobs done : List Job) → AllZip (λ (before after : Job). after.entry ≡ before.entry) jobs done → All (IsDone m plan turns) done → AllZip (λ (job : Job) walk. IsWalk m plan job.entry turns walk.items) jobs (map (λ (job : Job). job.walk) done)
walks-done m plan turns [] [] same all = tt
walks-done m plan turns [] (d ∷ done) same all = absurd same
walks-done m plan turns (j ∷ jobs) [] same all = absurd same
walks-done m plan turns (j ∷ jobs) (d ∷ done) same all =
    (subst (λ (entry : ℕ). IsWalk m plan entry turns d.walk.items) same.0 (All-head (IsDone m plan turns) d done all).walk, walks-done m plan turns jobs done same.1 (All-tail (IsDone m plan turns) d done all))
