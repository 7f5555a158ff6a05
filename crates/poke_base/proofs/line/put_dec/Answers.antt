use Rattle.std.proofs.Common.{arith}
use Rattle.poke_base.proofs.Numbers.{dec_number-decimal, length-decimal-le}
use Rattle.poke_base.proofs.line.put_dec.Goals as goal

pub returns-clause-short : goal.returns-clause-short
returns-clause-short c = length-decimal-le c.args.n (omega arith)

pub returns-clause-reads_back : goal.returns-clause-reads_back
returns-clause-reads_back c = dec_number-decimal c.args.n (omega arith)
