use Rattle.std.proofs.Common.{◌∙◌, ap, sym, arith, option_map, Some}
use Rattle.elf_module.specs.Elf.{section_at, e_shnum, unnamed}
use Rattle.elf_module.proofs.Finding.{get_within, get_past}
use Rattle.elf_module.proofs.sections.Sections.get_header.Goals as goal

pub returns-then-index-self-clause-found : goal.returns-then-index-self-clause-found
returns-then-index-self-clause-found c =
    let file = c.args.self.now.headers.bytes.now in
    ap Some c.header.ensures.at ∙ ap (option_map unnamed) (sym (get_within (section_at file) (e_shnum file) c.args.index (omega arith)))

pub returns-else-index-self-clause-found : goal.returns-else-index-self-clause-found
returns-else-index-self-clause-found c =
    let file = c.args.self.now.headers.bytes.now in
    ap (option_map unnamed) (sym (get_past (section_at file) (e_shnum file) c.args.index (omega arith)))
