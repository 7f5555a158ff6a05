use Rattle.std.proofs.Common.{◌∙◌, ap, sym, length}
use Rattle.std.proofs.lemmas.List.FromFn.{length-map-range_with_len}
use Rattle.elf_module.specs.Elf.{Elf, section_at, e_shnum}
use Rattle.elf_module.proofs.file.ElfFile.section_count.Goals as goal

pub returns : goal.returns
returns c =
    let headers = c.self.inside.sections.headers in
    headers.count_is ∙ sym (length-map-range_with_len (section_at headers.bytes.now) 0 (e_shnum headers.bytes.now)) ∙ ap (λ (e : Elf). length e.sections) c.self.view_is
