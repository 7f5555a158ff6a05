use Rattle.std.proofs.Common.{length, ap, arith}
use Rattle.poke_base.specs.Number.{decimal}
use Rattle.cpu_core.proofs.CpuNumbers.{length-decimal_cpu}
use Rattle.cpu_core.proofs.lines.put_cpu.Goals as goal

pub put_dec-requires : goal.put_dec-requires
put_dec-requires c =
    let short = length-decimal_cpu c.args.cpu c.requires.known in
    let same = ap (λ n. length (decimal n)) c.from.ensures in
    omega arith

pub returns-clause-short : goal.returns-clause-short
returns-clause-short c = length-decimal_cpu c.args.cpu c.requires.known
