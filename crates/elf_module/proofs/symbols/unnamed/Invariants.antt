use Rattle.std.proofs.Common.{◌<◌, ◌*◌, ℕ}
use Rattle.elf_module.specs.Elf.{field}
use Rattle.elf_module.proofs.symbols.unnamed.Given as goal

abbrev pub invariant-loop-i : goal.invariant-loop-i
invariant-loop-i l = (k : ℕ) → k < l.i → field 4 (24 * k) l.entries < l.end
