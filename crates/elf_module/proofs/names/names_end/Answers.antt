use Rattle.std.proofs.Common.{arith}
use Rattle.elf_module.proofs.NamesEnd.{has_name-before_end}
use Rattle.elf_module.proofs.names.names_end.Goals as goal

pub returns-then-table-end-eq0 : goal.returns-then-table-end-eq0
returns-then-table-end-eq0 c = has_name-before_end c.args.table.now c.loop-end.end (omega arith) (c.loop-end.invariant.0) c.loop-end.invariant.1 c.if-table-end-eq0.true
