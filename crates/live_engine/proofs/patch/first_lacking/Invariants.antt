-- The processors that were asked are known to have acknowledged the last request.
use Rattle.std.proofs.Common.{◌≤◌, ◌<◌, ℕ}
use Rattle.std.specs.Prelude.{slice_index}
use Rattle.live_engine.proofs.patch.first_lacking.Given as goal

abbrev pub invariant-loop-cpu : goal.invariant-loop-cpu
invariant-loop-cpu l =
    (cpu : ℕ) → l.from ≤ cpu → cpu < l.cpu → l.seat.view.patch.stored ≤ slice_index l.seat.view.patch.bounds cpu
