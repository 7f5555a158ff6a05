use Rattle.std.proofs.Common.{arith}
use Rattle.std.proofs.lemmas.Result.{IfOk-weaker, err_from_is_err_and}
use Rattle.script_text.proofs.Reading.{reading-ends, reading-first, reading-next, reading-refused}
use Rattle.script_text.proofs.script.Script.read.Goals as goal

pub loop-line-init : goal.loop-line-init
loop-line-init c = record { on = rw c.new-draft.ensures (reading-first c.args.image.now c.args.text.now); counted = omega arith }

pub returns-in_err-take-clause-refused : goal.returns-in_err-take-clause-refused
returns-in_err-take-clause-refused c =
    let p = err_from_is_err_and c.from_residual.result c.from_residual.ensures.1 in
    rw (p.1, p.2) (reading-refused c.args.image.now c.args.text.now c.loop-line.rest.now c.in-Some.line.now c.in-Some.after.now c.loop-line.number c.loop-line.draft _ c.loop-line.invariant.on c.in-Some.ensures.lines c.in_err-take.ensures.refused)

pub overflow_add-number : goal.overflow_add-number
overflow_add-number c = omega (arith, c.in-Some.ensures.shorter)

pub loop-line-preserved : goal.loop-line-preserved
loop-line-preserved c = record {
  on = reading-next c.args.image.now c.args.text.now c.loop-line.rest.now c.in-Some.line.now c.in-Some.after.now c.loop-line.number c.loop-line.draft _ c.loop-line.invariant.on c.in-Some.ensures.lines c.in_ok-take.ensures.taken;
  counted = omega (arith, c.in-Some.ensures.shorter);
}

pub returns-clause-script : goal.returns-clause-script
returns-clause-script c =
    rw (← reading-ends c.args.image.now c.args.text.now c.loop-line.rest.now c.loop-line.number c.loop-line.draft c.loop-line.invariant.on c.in_default.ensures.lines) c.finish.ensures.read

pub returns-clause-of : goal.returns-clause-of
returns-clause-of c =
    IfOk-weaker c.finish.result _ _ (λ s is. c.scripts_are_of_their_modules.ensures c.args.image.now c.args.text.now s c.accepted.ensures is)
    (rw (← reading-ends c.args.image.now c.args.text.now c.loop-line.rest.now c.loop-line.number c.loop-line.draft c.loop-line.invariant.on c.in_default.ensures.lines) c.finish.ensures.read)

pub returns-clause-refused : goal.returns-clause-refused
returns-clause-refused c =
    rw (← reading-ends c.args.image.now c.args.text.now c.loop-line.rest.now c.loop-line.number c.loop-line.draft c.loop-line.invariant.on c.in_default.ensures.lines) c.finish.ensures.refused
