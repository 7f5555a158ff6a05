-- Each arm answers what its first byte says.
use Rattle.std.proofs.Common.{◌∙◌, sym, ap, Err, arith}
use Rattle.std.proofs.lemmas.Result.{err_from_is_err_and}
use Rattle.x64_subset.specs.declared.insn.Insn.TheVariants.{Jmp8, Jmp32, Call}
use Rattle.x64_subset.specs.Reading.{first}
use Rattle.x64_subset.proofs.Opcodes.{where_is, first_jcc8, first_mov_imm}
use Rattle.x64_subset.proofs.reading.by_opcode.Goals as goal

pub returns-in-1 : goal.returns-in-1
returns-in-1 c = where_is (first c.args.at) _ 0x01 _ _ c.in-1.is c.alu.ensures

pub returns-in-15 : goal.returns-in-15
returns-in-15 c = where_is (first c.args.at) _ 0x0f _ _ c.in-15.is c.escaped.ensures

pub returns-in-41 : goal.returns-in-41
returns-in-41 c = where_is (first c.args.at) _ 0x29 _ _ c.in-41.is c.alu-in-41.ensures

pub returns-in-49 : goal.returns-in-49
returns-in-49 c = where_is (first c.args.at) _ 0x31 _ _ c.in-49.is c.alu-in-49.ensures

pub returns-in-57 : goal.returns-in-57
returns-in-57 c = where_is (first c.args.at) _ 0x39 _ _ c.in-57.is c.alu-in-57.ensures

pub returns-in-102 : goal.returns-in-102
returns-in-102 c = where_is (first c.args.at) _ 0x66 _ _ c.in-102.is c.prefixed.ensures

pub returns-in-131 : goal.returns-in-131
returns-in-131 c = where_is (first c.args.at) _ 0x83 _ _ c.in-131.is c.alu_imm.ensures

pub returns-in-133 : goal.returns-in-133
returns-in-133 c = where_is (first c.args.at) _ 0x85 _ _ c.in-133.is c.alu-in-133.ensures

pub returns-in-137 : goal.returns-in-137
returns-in-137 c = where_is (first c.args.at) _ 0x89 _ _ c.in-137.is c.alu-in-137.ensures

pub returns-in-230 : goal.returns-in-230
returns-in-230 c = where_is (first c.args.at) _ 0xe6 _ _ c.in-230.is c.out.ensures

pub returns-in-255 : goal.returns-in-255
returns-in-255 c = where_is (first c.args.at) _ 0xff _ _ c.in-255.is c.inc_or_dec.ensures

pub returns-in_ok-far_target-in-232 : goal.returns-in_ok-far_target-in-232
returns-in_ok-far_target-in-232 c =
    where_is (first c.args.at) _ 0xe8 _ _ c.in-232.is (sym (c.in_ok-far_target-in-232.ensures Call))

pub returns-in_err-far_target-in-232 : goal.returns-in_err-far_target-in-232
returns-in_err-far_target-in-232 c =
    let p = err_from_is_err_and c.from_residual.result c.from_residual.ensures.1 in
    where_is (first c.args.at) _ 0xe8 _ _ c.in-232.is
    (p.1 ∙ ap Err p.2 ∙ sym (c.in_err-far_target-in-232.ensures Call))

pub returns-in_ok-far_target-in-233 : goal.returns-in_ok-far_target-in-233
returns-in_ok-far_target-in-233 c =
    where_is (first c.args.at) _ 0xe9 _ _ c.in-233.is (sym (c.in_ok-far_target-in-233.ensures Jmp32))

pub returns-in_err-far_target-in-233 : goal.returns-in_err-far_target-in-233
returns-in_err-far_target-in-233 c =
    let p = err_from_is_err_and c.from_residual-in_err-far_target-in-233.result c.from_residual-in_err-far_target-in-233.ensures.1 in
    where_is (first c.args.at) _ 0xe9 _ _ c.in-233.is
    (p.1 ∙ ap Err p.2 ∙ sym (c.in_err-far_target-in-233.ensures Jmp32))

pub returns-in_ok-near_target-in-235 : goal.returns-in_ok-near_target-in-235
returns-in_ok-near_target-in-235 c =
    where_is (first c.args.at) _ 0xeb _ _ c.in-235.is (sym (c.in_ok-near_target-in-235.ensures Jmp8))

pub returns-in_err-near_target-in-235 : goal.returns-in_err-near_target-in-235
returns-in_err-near_target-in-235 c =
    let p = err_from_is_err_and c.from_residual-in_err-near_target-in-235.result c.from_residual-in_err-near_target-in-235.ensures.1 in
    where_is (first c.args.at) _ 0xeb _ _ c.in-235.is
    (p.1 ∙ ap Err p.2 ∙ sym (c.in_err-near_target-in-235.ensures Jmp8))

pub returns-in-112-to-127 : goal.returns-in-112-to-127
returns-in-112-to-127 c = c.jcc8.ensures ∙ sym (first_jcc8 c.args.at c.args.opcode _ (omega arith) (omega arith))

pub returns-in-184-to-191 : goal.returns-in-184-to-191
returns-in-184-to-191 c = c.mov_imm.ensures ∙ sym (first_mov_imm c.args.at c.args.opcode _ (omega arith) (omega arith))
