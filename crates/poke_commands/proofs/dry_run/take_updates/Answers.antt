use Rattle.std.proofs.Common.{◌+◌, ◌∙◌, List, Some, ap, subst, sym, take}
use Rattle.std.proofs.lemmas.Option.{slice_get-get_or}
use Rattle.script_text.specs.declared.script.ScriptStep.{ScriptStep}
use Rattle.script_text.specs.declared.script.ScriptStep.TheVariants.{Update}
use Rattle.script_text.specs.Commands.{commands}
use Rattle.key_state.specs.declared.outcome.Outcome.{Outcome}
use Rattle.module_parts.specs.declared.command.Command.TheVariants.{Inc}
use Rattle.poke_commands.proofs.ScriptUpdates.{HasTaken, update_taken}
use Rattle.poke_commands.proofs.dry_run.take_updates.Goals as goal

pub loop-step-preserved : goal.loop-step-preserved
loop-step-preserved c =
    let m = c.args.image.now in
    let blank : ScriptStep = Update (Inc 0) in
    let there = slice_get-get_or c.args.steps.now c.loop-step.step-index blank c.loop-step-test.true ∙ ap Some c.in-Update.is in
    subst (λ (done : List Outcome). HasTaken m c.args.settled.now.states (commands (take (c.loop-step.step-index + 1) c.args.steps.now)) done c.take.new.self) (sym {A = List Outcome} c.in_ok-push.ensures.items)
    (update_taken m c.args.settled.now.states c.args.steps.now c.loop-step.step-index c.loop-step.outcomes.items c.loop-step.settled c.take.new.self c.in-Update.command c.take.result there c.loop-step.invariant c.take.ensures.outcome c.take.ensures.states c.take.ensures.of)
