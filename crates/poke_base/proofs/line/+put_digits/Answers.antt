use Rattle.std.proofs.Common.{arith, rules}
use Rattle.std.proofs.lemmas.Grind.{common_steps}
use Rattle.poke_base.proofs.Numbers.{length-spelling-more, spelling-digit, spelling-more}
use Rattle.poke_base.proofs.line.+put_digits.Goals as goal

pub put_digits-requires : goal.put_digits-requires
put_digits-requires t c =
    let longer = length-spelling-more c.args.base c.args.n (omega arith) (omega arith) in
    (search rules, (c.requires.least, (c.requires.most, omega arith)))

pub put_digit-requires-else-n-base-clause-room : goal.put_digit-requires-else-n-base-clause-room
put_digit-requires-else-n-base-clause-room t c =
    let longer = length-spelling-more c.args.base c.args.n (omega arith) (omega arith) in
    grind (arith, common_steps)

pub returns-then-n-base : goal.returns-then-n-base
returns-then-n-base t c = rw (spelling-digit c.args.base c.args.n (omega arith) (omega arith)) (search rules)

pub returns-else-n-base : goal.returns-else-n-base
returns-else-n-base t c =
    let more = spelling-more c.args.base c.args.n (omega arith) (omega arith) in
    grind (arith, common_steps)
