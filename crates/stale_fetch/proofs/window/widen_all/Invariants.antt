use Rattle.std.proofs.Common.{◌≡◌, ◌++◌, map, take, drop}
use Rattle.stale_fetch.specs.Windows.{widened_at}
use Rattle.stale_fetch.proofs.window.widen_all.Given as goal

abbrev pub invariant-loop-row : goal.invariant-loop-row
invariant-loop-row l =
    l.row-items ≡ map (widened_at l.place l.held l.byte) (take l.row-index l.initial.row-items) ++ drop l.row-index l.initial.row-items
