use Rattle.std.proofs.Common.{◌≡◌, true, take}
use Rattle.std.specs.List.{list_all}
use Rattle.stale_fetch.specs.Choice.{takes, chosen}
use Rattle.stale_fetch.specs.Windows.{Row, window_at}
use Rattle.stale_fetch.proofs.window.all_take.Given as goal

abbrev pub invariant-loop-row : goal.invariant-loop-row
invariant-loop-row l =
    list_all (λ (row : Row). takes (chosen l.held (window_at row l.place)) l.byte) (take l.row-index l.rows) ≡ true
