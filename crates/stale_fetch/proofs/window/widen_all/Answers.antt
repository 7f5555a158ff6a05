use Rattle.std.proofs.Common.{◌∙◌, ap, set, sym}
use Rattle.std.proofs.lemmas.List.Edits.{map_over_more}
use Rattle.stale_fetch.specs.Windows.{Row, widened_at}
use Rattle.stale_fetch.proofs.window.widen_all.Goals as goal

pub loop-row-preserved : goal.loop-row-preserved
loop-row-preserved c =
    let f : Row → Row = widened_at c.args.place c.args.held c.args.byte in
    ap (set c.loop-row.row-items c.loop-row.row-index) c.widen.ensures
    ∙ ap (λ (row : Row). set c.loop-row.row-items c.loop-row.row-index (f row)) (sym c.row-item.is)
    ∙ map_over_more f c.args.rows.now c.loop-row.row-items c.loop-row.row-index c.row-item.result c.loop-row-test.true c.loop-row.invariant c.row-item.is
