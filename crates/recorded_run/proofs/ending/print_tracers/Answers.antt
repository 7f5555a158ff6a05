use Rattle.std.proofs.Common.{◌∙◌, rules}
use Rattle.recorded_run.proofs.TracerLines.{total_failed, total_printed, totals_failed}
use Rattle.recorded_run.proofs.ending.print_tracers.Goals as goal

pub returns-in_err-print : goal.returns-in_err-print
returns-in_err-print g c =
    let part = totals_failed _ _ _ c.in_err-print.field-0.0 c.from_residual.result c.from_residual.ensures.0
    (total_failed _ c.args.tracers.now.items c.loop-place.place c.index.result.now c.total_of.result c.deref.result.now c.in_err-print.field-0.0 _ _ _ (search rules) c.index.ensures c.total_of.ensures c.loop-place.invariant (c.deref.ensures.0 ∙ c.tracer_line.ensures) c.in_err-print.ensures) in
    (part.totals, part.are, part.prints)

pub loop-place-preserved : goal.loop-place-preserved
loop-place-preserved g c =
    total_printed _ c.args.tracers.now.items c.loop-place.place c.index.result.now c.total_of.result c.deref.result.now _ _ _ (search rules) c.index.ensures c.total_of.ensures c.loop-place.invariant (c.deref.ensures.0 ∙ c.tracer_line.ensures) c.in_ok-print.ensures
