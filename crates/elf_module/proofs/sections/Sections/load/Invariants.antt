use Rattle.std.proofs.Common.{◌≡◌, ◌<◌, ℕ, false}
use Rattle.elf_module.specs.Elf.{SectionRecord, section_at, covers}
use Rattle.elf_module.proofs.sections.Sections.load.Given as goal

abbrev pub invariant-loop-i : goal.invariant-loop-i
invariant-loop-i l = (k : ℕ) → k < l.i → (λ (s : SectionRecord). covers s l.at) (section_at l.self.headers.bytes.now k) ≡ false
