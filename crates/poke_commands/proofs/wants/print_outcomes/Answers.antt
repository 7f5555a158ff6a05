use Rattle.std.proofs.Common.{◌∙◌, Some, ap, sym}
use Rattle.std.proofs.lemmas.Option.{slice_get-get_or}
use Rattle.key_state.specs.declared.outcome.Outcome.{Outcome}
use Rattle.poke_base.proofs.ItemLines.{as_failed}
use Rattle.poke_commands.proofs.OutcomeLines.{outcome_failed, outcome_printed}
use Rattle.poke_commands.proofs.wants.print_outcomes.Goals as goal

pub returns-in_err-print : goal.returns-in_err-print
returns-in_err-print g c =
    let x : Outcome = c.index-outcomes-place.result in
    as_failed _ _ _ c.in_err-print.field-0.0 c.from_residual.result c.from_residual.ensures.0
    (outcome_failed c.args.outcomes.now c.loop-place.place x c.deref.result.now c.in_err-print.field-0.0 _ _ _ c.loop-place-test.true (slice_get-get_or c.args.outcomes.now c.loop-place.place x c.loop-place-test.true ∙ ap Some (sym c.index-outcomes-place.is)) c.loop-place.invariant (c.deref.ensures.0 ∙ c.outcome_line.ensures) c.in_err-print.ensures)

pub loop-place-preserved : goal.loop-place-preserved
loop-place-preserved g c =
    let x : Outcome = c.index-outcomes-place.result in
    outcome_printed c.args.outcomes.now c.loop-place.place x c.deref.result.now _ _ _ c.loop-place-test.true (slice_get-get_or c.args.outcomes.now c.loop-place.place x c.loop-place-test.true ∙ ap Some (sym c.index-outcomes-place.is)) c.loop-place.invariant (c.deref.ensures.0 ∙ c.outcome_line.ensures) c.in_ok-print.ensures
