use Rattle.std.proofs.Common.{◌∙◌, ap, sym, arith, Some}
use Rattle.std.specs.Str.{bytes_eq}
use Rattle.elf_module.specs.Elf.{SectionRecord, section_at, e_shnum}
use Rattle.elf_module.proofs.Finding.{find_first, find_none}
use Rattle.elf_module.proofs.sections.Sections.find.Goals as goal

pub returns-then-is_named-clause-found : goal.returns-then-is_named-clause-found
returns-then-is_named-clause-found c =
    let file = c.args.self.now.headers.bytes.now in
    ap Some c.at.ensures.at ∙ sym (find_first (λ (s : SectionRecord). bytes_eq s.name c.args.name.now) (section_at file) 0 (e_shnum file) c.loop-i.i (omega arith) (omega arith) c.loop-i.invariant (sym c.is_named.ensures ∙ c.if-is_named.true))

pub returns-clause-found : goal.returns-clause-found
returns-clause-found c =
    let file = c.args.self.now.headers.bytes.now in
    sym (find_none (λ (s : SectionRecord). bytes_eq s.name c.args.name.now) (section_at file) 0 (e_shnum file) (λ k lt. c.loop-i.invariant k (omega arith)))
