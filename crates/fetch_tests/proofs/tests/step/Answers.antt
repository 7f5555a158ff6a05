use Rattle.std.proofs.Common.{◌/◌, ◌%◌, ◌+◌, subst, sym, arith}
use Rattle.stale_fetch.specs.Text.{Shape, Covers}
use Rattle.fetch_tests.proofs.tests.step.Goals as goal

pub call_both-requires-clause-inside : goal.call_both-requires-clause-inside
call_both-requires-clause-inside g c = c.requires.inside (c.args.draw / 256 % 3) (omega arith)

pub call_both-requires-clause-other_inside : goal.call_both-requires-clause-other_inside
call_both-requires-clause-other_inside g c = c.requires.other_inside (c.args.draw / 256 % 3) (omega arith)

pub same_answers-requires-clause-inside : goal.same_answers-requires-clause-inside
same_answers-requires-clause-inside g c =
    subst (λ (s : Shape). Covers s (0x401000 + c.args.draw / 256 % 3)) (sym c.call_both.ensures.shape) (c.requires.inside (c.args.draw / 256 % 3) (omega arith))

pub same_answers-requires-clause-other_inside : goal.same_answers-requires-clause-other_inside
same_answers-requires-clause-other_inside g c =
    subst (λ (s : Shape). Covers s (0x401000 + c.args.draw / 256 % 3)) (sym c.call_both.ensures.other_shape) (c.requires.other_inside (c.args.draw / 256 % 3) (omega arith))

pub same_answers-requires-2-clause-inside : goal.same_answers-requires-2-clause-inside
same_answers-requires-2-clause-inside g c =
    subst (λ (s : Shape). Covers s (0x401000 + c.args.draw / 256 % 3)) (sym c.call_both.ensures.shape) (c.requires.inside (c.args.draw / 256 % 3) (omega arith))

pub same_answers-requires-2-clause-other_inside : goal.same_answers-requires-2-clause-other_inside
same_answers-requires-2-clause-other_inside g c =
    subst (λ (s : Shape). Covers s (0x401000 + c.args.draw / 256 % 3)) (sym c.call_both.ensures.other_shape) (c.requires.other_inside (c.args.draw / 256 % 3) (omega arith))
