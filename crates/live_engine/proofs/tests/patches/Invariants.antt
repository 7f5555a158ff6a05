-- The worker keeps its seat at this text.
use Rattle.std.proofs.Common.{◌≡◌}
use Rattle.live_text.specs.Own.{IsOwn}
use Rattle.live_engine.proofs.tests.patches.Given as goal

abbrev pub invariant-loop : goal.invariant-loop
invariant-loop g l = IsOwn l.text l.patcher.seat × (l.patcher.worker ≡ l.text.cpus)
