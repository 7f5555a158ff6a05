use Rattle.std.proofs.Common.{◌∙◌, length, map, ap}
use Rattle.std.proofs.lemmas.List.{with_items_is}
use Rattle.stale_fetch.specs.WindowInside.{window_in}
use Rattle.stale_fetch.proofs.Rows.{close_last, close_next}
use Rattle.stale_fetch.proofs.row.Windows.close.Goals as goal

pub returns-then-self : goal.returns-then-self
returns-then-self c =
    ap (map (window_in 1)) (with_items_is c.self.inside.windows c.end_epochs.new.windows (c.end_epochs.auto.windows ∙ c.deref_mut.ensures.len))
    ∙ close_last c.self.inside.epoch c.self.inside.windows.items c.end_epochs.new.windows _ c.end_epochs.ensures (c.end_epochs.auto.windows ∙ ap length c.deref_mut.ensures.value) c.self.view_is

pub returns-else-self : goal.returns-else-self
returns-else-self c = close_next c.self.inside.epoch c.self.inside.windows.items _ c.self.invariant c.self.view_is
