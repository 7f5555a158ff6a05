-- The workers keep their seats at this text, and the processor and its seat stay a pair.
use Rattle.std.proofs.Common.{◌≡◌}
use Rattle.live_text.specs.Own.{IsOwn}
use Rattle.live_engine.specs.LiveCpu.{IsPaired, runner}
use Rattle.live_engine.specs.LivePlan.{IsLivePlan}
use Rattle.live_engine.proofs.tests.goes.Given as goal

abbrev pub invariant-loop-step : goal.invariant-loop-step
invariant-loop-step g l =
    IsOwn l.text l.patcher.seat × (l.patcher.worker ≡ l.text.cpus) × IsOwn l.text l.job.seat
    × IsPaired l.image l.text.plan (runner l.job.cpu l.job.seat)
