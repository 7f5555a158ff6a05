use Rattle.std.proofs.Common.{◌*◌, arith}
use Rattle.elf_module.specs.Elf.{field}
use Rattle.elf_module.proofs.symbols.unnamed.Goals as goal

pub returns-then-u32_at-end : goal.returns-then-u32_at-end
returns-then-u32_at-end c = record {
  below = omega arith;
  holds = λ has. absurd (omega (arith, c.u32_at.ensures, (c.names_end-end.ensures (field 4 (24 * c.loop-i.i) c.args.entries.now)).0 has));
  before = λ k lt no_name. no_name ((c.names_end-end.ensures (field 4 (24 * k) c.args.entries.now)).1 (c.loop-i.invariant k lt));
}

pub returns : goal.returns
returns c = λ k lt. (c.names_end-end.ensures (field 4 (24 * k) c.args.entries.now)).1 (c.loop-i.invariant k (omega arith))
