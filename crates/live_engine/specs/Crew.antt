-- What a run needs, before it.
use Rattle.std.specs.Prelude.{◌≡◌, ◌≤◌, ℕ, [], All, vec_capacity, vec_len}
use Rattle.live_text.specs.Own.{IsOwn}
use Rattle.module_image.specs.Module.{Module}
use Rattle.live_engine.specs.declared.run.Crew.{Crew}
use Rattle.live_engine.specs.LivePlan.{IsLivePlan, last_bytes}
use Rattle.live_engine.specs.LiveRun.{IsReady}

pub record IsCrew (m : Module) (turns : ℕ) (crew : Crew) : Type 0 where
  pub plan : IsLivePlan m crew.text.plan
  pub own : IsOwn crew.text crew.patcher.seat
  pub worker : crew.patcher.worker ≡ crew.text.cpus
  pub ready : All (IsReady m crew.text turns) crew.jobs.items
  -- what the sites hold in the end, and room for the walks and seats
  pub last : crew.last.items ≡ last_bytes crew.text.plan
  pub no_walks : crew.walks.items ≡ []
  pub walks_room : vec_len crew.jobs ≤ vec_capacity crew.walks
  pub no_seats : crew.seats.items ≡ []
  pub seats_room : vec_len crew.jobs ≤ vec_capacity crew.seats
