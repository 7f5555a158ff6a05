use Rattle.std.proofs.Common.{◌∙◌, arith, sym}
use Rattle.std.proofs.lemmas.Grind.{common_steps}
use Rattle.poke_base.proofs.Numbers.{read_on-ends, read_on-stops}
use Rattle.poke_base.proofs.number.read_digits.Goals as goal

pub returns-in_err-value : goal.returns-in_err-value
returns-in_err-value c =
    let stops = read_on-stops c.args.base c.args.most c.loop-byte.value c.loop-byte.byte-index c.args.word.now (omega arith) (omega arith) (omega arith) (sym c.with_digit.ensures ∙ c.in_err-value.was) c.loop-byte.invariant in
    c.from_residual.ensures ∙ stops

pub returns : goal.returns
returns c =
    read_on-ends c.args.base c.args.most c.loop-byte.value c.loop-byte.byte-index c.args.word.now (omega arith) (grind (arith, common_steps)) (omega arith) (omega arith) c.loop-byte.invariant
