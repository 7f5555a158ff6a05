use Rattle.std.proofs.Common.{arith}
use Rattle.poke_base.proofs.Numbers.{hex_number-hexadecimal, length-hexadecimal-le}
use Rattle.poke_base.proofs.line.put_hex.Goals as goal

pub returns-clause-short : goal.returns-clause-short
returns-clause-short c = length-hexadecimal-le c.args.n (omega arith)

pub returns-clause-reads_back : goal.returns-clause-reads_back
returns-clause-reads_back c = hex_number-hexadecimal c.args.n (omega arith)
