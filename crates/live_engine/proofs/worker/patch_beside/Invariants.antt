-- The worker keeps its seat at this text.
use Rattle.std.proofs.Common.{◌≡◌}
use Rattle.live_text.specs.Own.{IsOwn}
use Rattle.live_engine.proofs.worker.patch_beside.Given as goal

abbrev pub invariant-loop-turn : goal.invariant-loop-turn
invariant-loop-turn g l = IsOwn l.text l.patcher.seat × (l.patcher.worker ≡ l.text.cpus)
