use Rattle.std.proofs.Common.{◌≡◌}
use Rattle.std.specs.List.{AllWithin}
use Rattle.stale_fetch.specs.declared.row.Window.{Window}
use Rattle.stale_fetch.proofs.row.end_epochs.Given as goal

abbrev pub invariant-loop-window : goal.invariant-loop-window
invariant-loop-window l = AllWithin (λ (w : Window). w.epoch ≡ 0) l.window-items 0 l.window-index
