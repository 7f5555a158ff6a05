-- The tests of prefixes decide.
use Rattle.std.proofs.Common.{sym, take, length}
use Rattle.std.specs.Cmp.Lexicographic.{same_text, other_text}
use Rattle.x64_subset.proofs.Opcodes.{expect_starts, expect_short, expect_unknown}
use Rattle.x64_subset.proofs.reading.expect.Goals as goal

pub returns-then-starts_with : goal.returns-then-starts_with
returns-then-starts_with c =
    sym (expect_starts c.args.code.now c.args.rest.now _ _ (sym (same_text c.args.code.now (take (length c.args.code.now) c.args.rest.now) c.if-starts_with.ensures.value)))

pub returns-then-starts_with-2 : goal.returns-then-starts_with-2
returns-then-starts_with-2 c =
    sym (expect_short c.args.code.now c.args.rest.now c.args.insn c.args.len (λ prefix. other_text c.args.code.now (take (length c.args.code.now) c.args.rest.now) c.if-starts_with.ensures.value (sym prefix))
    (sym (same_text c.args.rest.now (take (length c.args.rest.now) c.args.code.now) c.if-starts_with-2.ensures.value)))

pub returns-else-starts_with-2 : goal.returns-else-starts_with-2
returns-else-starts_with-2 c =
    sym (expect_unknown c.args.code.now c.args.rest.now c.args.insn c.args.len (λ prefix. other_text c.args.code.now (take (length c.args.code.now) c.args.rest.now) c.if-starts_with.ensures.value (sym prefix))
    (λ prefix. other_text c.args.rest.now (take (length c.args.rest.now) c.args.code.now) c.if-starts_with-2.ensures.value (sym prefix)))
