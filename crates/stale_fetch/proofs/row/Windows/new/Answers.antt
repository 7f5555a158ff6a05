use Rattle.stale_fetch.proofs.Rows.{new_closed}
use Rattle.stale_fetch.proofs.row.Windows.new.Goals as goal

pub returns : goal.returns
returns c =
    new_closed c.in_ok-windows.windows.items c.args.size (c.in_ok-windows.ensures.items_if_clones_equal (λ y e. e))
