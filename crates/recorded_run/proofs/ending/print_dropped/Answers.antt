use Rattle.std.proofs.Common.{◌∙◌, None, get_or}
use Rattle.std.proofs.lemmas.Option.{slice_get-get_or}
use Rattle.recorded_run.specs.declared.tracing.Dropped.{Dropped}
use Rattle.recorded_run.specs.Tally.{dropped_line}
use Rattle.poke_base.proofs.ItemLines.{as_failed, item_failed}
use Rattle.recorded_run.proofs.ending.print_dropped.Goals as goal

pub returns-in_err-print : goal.returns-in_err-print
returns-in_err-print g c =
    let xs = c.args.dropped.now in
    let none : Dropped = record { place = 0; total = None } in
    as_failed _ _ _ c.in_err-print.field-0.0 c.from_residual.result c.from_residual.ensures.0
    (item_failed dropped_line xs c.loop-drop.drop-index (get_or xs c.loop-drop.drop-index none) c.deref.result.now c.in_err-print.field-0.0 _ _ _ (slice_get-get_or xs c.loop-drop.drop-index none c.loop-drop-test.true) c.loop-drop.invariant (c.deref.ensures.0 ∙ c.dropped_line.ensures) c.in_err-print.ensures)
