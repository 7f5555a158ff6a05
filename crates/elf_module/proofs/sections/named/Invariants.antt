use Rattle.std.proofs.Common.{◌<◌, ℕ}
use Rattle.elf_module.specs.Elf.{sh_name}
use Rattle.elf_module.proofs.sections.named.Given as goal

abbrev pub invariant-loop-i : goal.invariant-loop-i
invariant-loop-i l = (k : ℕ) → k < l.i → sh_name l.sections.headers.bytes.now k < l.end
