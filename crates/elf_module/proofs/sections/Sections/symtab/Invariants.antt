use Rattle.std.proofs.Common.{◌≡◌, ◌==◌, ◌<◌, ℕ, false}
use Rattle.elf_module.specs.Elf.{SectionRecord, section_at, sht_symtab}
use Rattle.elf_module.proofs.sections.Sections.symtab.Given as goal

abbrev pub invariant-loop-i : goal.invariant-loop-i
invariant-loop-i l = (k : ℕ) → k < l.i → (λ (s : SectionRecord). s.kind == sht_symtab) (section_at l.self.headers.bytes.now k) ≡ false
