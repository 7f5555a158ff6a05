-- The second byte decides.
use Rattle.std.proofs.Common.{◌∙◌, ap, sym, arith}
use Rattle.x64_subset.specs.Reading.{byte, escaped}
use Rattle.x64_subset.proofs.Opcodes.{where_is, escaped_jcc32}
use Rattle.x64_subset.proofs.reading.escaped.Goals as goal

pub returns-in-31 : goal.returns-in-31
returns-in-31 c =
    where_is (escaped c.args.at) _ 0x1f _ _ c.in-31.is c.long_nop.ensures
    ∙ ap (byte (escaped c.args.at)) (sym c.in_ok-opcode.ensures)

pub returns-in-128-to-143 : goal.returns-in-128-to-143
returns-in-128-to-143 c =
    c.jcc32.ensures ∙ sym (escaped_jcc32 c.args.at c.in_ok-opcode.opcode _ (omega arith) (omega arith))
    ∙ ap (byte (escaped c.args.at)) (sym c.in_ok-opcode.ensures)
