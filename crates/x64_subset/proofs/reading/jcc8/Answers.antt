-- The condition's test was passed, and the displacement leads to the target.
use Rattle.std.proofs.Common.{◌∙◌, ap, Err}
use Rattle.std.proofs.lemmas.Result.{err_from_is_err_and}
use Rattle.x64_subset.specs.declared.insn.Insn.TheVariants.{Jcc8}
use Rattle.x64_subset.proofs.Opcodes.{where_true}
use Rattle.x64_subset.proofs.reading.jcc8.Goals as goal

pub returns-in_err-near_target : goal.returns-in_err-near_target
returns-in_err-near_target c =
    let p = err_from_is_err_and c.from_residual.result c.from_residual.ensures.1 in
    p.1 ∙ ap Err p.2
    ∙ where_true _ _ c.args.rest.now _ c.if-is_condition.ensures (c.in_err-near_target.ensures (Jcc8 c.args.condition))

pub returns-in_ok-near_target : goal.returns-in_ok-near_target
returns-in_ok-near_target c =
    where_true _ _ c.args.rest.now _ c.if-is_condition.ensures (c.in_ok-near_target.ensures (Jcc8 c.args.condition))
