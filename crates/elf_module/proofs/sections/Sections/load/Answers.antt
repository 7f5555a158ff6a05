use Rattle.std.proofs.Common.{◌∙◌, ap, sym, arith, refl, Some}
use Rattle.elf_module.specs.Elf.{SectionRecord, section_at, e_shnum, covers}
use Rattle.elf_module.proofs.Finding.{find_first, find_none}
use Rattle.elf_module.proofs.sections.Sections.load.Goals as goal

pub returns-then-covers : goal.returns-then-covers
returns-then-covers c =
    let file = c.args.self.now.headers.bytes.now in
    let found = (find_first (λ (s : SectionRecord). covers s c.args.at) (section_at file) 0 (e_shnum file) c.loop-i.i (omega arith) (omega arith) c.loop-i.invariant (sym c.covers.ensures ∙ c.if-covers.true)) in
    rw found (ap Some c.byte_at.ensures)

pub returns : goal.returns
returns c =
    let file = c.args.self.now.headers.bytes.now in
    rw (find_none (λ (s : SectionRecord). covers s c.args.at) (section_at file) 0 (e_shnum file) (λ k lt. c.loop-i.invariant k (omega arith))) refl
