use Rattle.std.proofs.Common.{◌≡◌, ◌<◌, ℕ, false}
use Rattle.std.specs.Str.{bytes_eq}
use Rattle.elf_module.specs.Elf.{SectionRecord, section_at}
use Rattle.elf_module.proofs.sections.Sections.find.Given as goal

abbrev pub invariant-loop-i : goal.invariant-loop-i
invariant-loop-i l = (k : ℕ) → k < l.i → (λ (s : SectionRecord). bytes_eq s.name l.name) (section_at l.self.headers.bytes.now k) ≡ false
