use Rattle.std.proofs.Common.{◌<◌, ℕ}
use Rattle.elf_module.specs.Refusals.{ReachesPast}
use Rattle.elf_module.proofs.sections.inside.Given as goal

abbrev pub invariant-loop-i : goal.invariant-loop-i
invariant-loop-i l = (k : ℕ) → k < l.i → ReachesPast l.headers.bytes.now k → ⊥
