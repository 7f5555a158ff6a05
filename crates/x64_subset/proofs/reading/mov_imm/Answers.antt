-- The register's test was passed, and the four bytes are a number.
use Rattle.std.proofs.Common.{◌∙◌, ap, sym, Ok, Err, ℕ}
use Rattle.std.proofs.lemmas.Result.{err_from_is_err_and}
use Rattle.std.specs.Int.{w32, from_le_bytes}
use Rattle.x64_subset.specs.declared.insn.Insn.TheVariants.{MovImm}
use Rattle.x64_subset.proofs.Opcodes.{where_true}
use Rattle.x64_subset.proofs.reading.mov_imm.Goals as goal

pub returns-in_err-four_bytes : goal.returns-in_err-four_bytes
returns-in_err-four_bytes c =
    let p = err_from_is_err_and c.from_residual.result c.from_residual.ensures.1 in
    p.1 ∙ ap Err p.2
    ∙ where_true _ _ c.args.rest.now _ c.if-is_register.ensures
    (c.in_err-four_bytes.ensures (λ id. MovImm c.args.r (from_le_bytes w32 id)) 5)

pub returns-in_ok-four_bytes : goal.returns-in_ok-four_bytes
returns-in_ok-four_bytes c =
    where_true _ _ c.args.rest.now _ c.if-is_register.ensures
    (c.in_ok-four_bytes.ensures (λ id. MovImm c.args.r (from_le_bytes w32 id)) 5
    ∙ ap (λ (n : ℕ). Ok (MovImm c.args.r n, 5)) (sym c.from_le_bytes-number.ensures))
