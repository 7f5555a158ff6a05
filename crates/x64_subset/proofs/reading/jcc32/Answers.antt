-- The condition's test was passed, and the displacement leads to the target.
use Rattle.std.proofs.Common.{◌∙◌, ap, Err}
use Rattle.std.proofs.lemmas.Result.{err_from_is_err_and}
use Rattle.x64_subset.specs.declared.insn.Insn.TheVariants.{Jcc32}
use Rattle.x64_subset.proofs.Opcodes.{where_true}
use Rattle.x64_subset.proofs.reading.jcc32.Goals as goal

pub returns-in_err-far_target : goal.returns-in_err-far_target
returns-in_err-far_target c =
    let p = err_from_is_err_and c.from_residual.result c.from_residual.ensures.1 in
    p.1 ∙ ap Err p.2
    ∙ where_true _ _ c.args.rest.now _ c.if-is_condition.ensures (c.in_err-far_target.ensures (Jcc32 c.args.condition))

pub returns-in_ok-far_target : goal.returns-in_ok-far_target
returns-in_ok-far_target c =
    where_true _ _ c.args.rest.now _ c.if-is_condition.ensures (c.in_ok-far_target.ensures (Jcc32 c.args.condition))
