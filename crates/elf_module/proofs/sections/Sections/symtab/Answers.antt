use Rattle.std.proofs.Common.{◌∙◌, ◌==◌, ap, sym, arith, refl, Some}
use Rattle.elf_module.specs.Elf.{SectionRecord, section_at, e_shnum, sht_symtab}
use Rattle.elf_module.proofs.Finding.{find_first, find_none}
use Rattle.elf_module.proofs.sections.Sections.symtab.Goals as goal

pub returns-then-header-eq-SHT_SYMTAB-clause-found : goal.returns-then-header-eq-SHT_SYMTAB-clause-found
returns-then-header-eq-SHT_SYMTAB-clause-found c =
    let file = c.args.self.now.headers.bytes.now in
    ap Some c.at.ensures.at ∙ sym (find_first (λ (s : SectionRecord). s.kind == sht_symtab) (section_at file) 0 (e_shnum file) c.loop-i.i (omega arith) (omega arith) c.loop-i.invariant (rw (← c.header.ensures.kind, c.if-header-eq-SHT_SYMTAB.true) refl))

pub returns-clause-found : goal.returns-clause-found
returns-clause-found c =
    let file = c.args.self.now.headers.bytes.now in
    sym (find_none (λ (s : SectionRecord). s.kind == sht_symtab) (section_at file) 0 (e_shnum file) (λ k lt. c.loop-i.invariant k (omega arith)))
