use Rattle.std.proofs.Common.{◌≡◌, ◌∙◌, ap, sym, arith, length, option_map, slice_get}
use Rattle.std.proofs.lemmas.List.FromFn.{length-map-range_with_len}
use Rattle.std.specs.Str.{bytes_eq}
use Rattle.elf_module.specs.Elf.{Elf, SectionRecord, section_at, e_shnum}
use Rattle.elf_module.proofs.Finding.{asked_within}
use Rattle.elf_module.proofs.file.ElfFile.is_section_named.Goals as goal

pub is_named-requires : goal.is_named-requires
is_named-requires c =
    let headers = c.self.inside.sections.headers in
    let count : headers.count ≡ length c.args.self.now.sections =
    headers.count_is ∙ sym (length-map-range_with_len (section_at headers.bytes.now) 0 (e_shnum headers.bytes.now)) ∙ ap (λ (e : Elf). length e.sections) c.self.view_is in
    omega (arith, count, c.requires)

pub returns : goal.returns
returns c =
    let headers = c.self.inside.sections.headers in
    let count : e_shnum headers.bytes.now ≡ length c.args.self.now.sections =
    sym (length-map-range_with_len (section_at headers.bytes.now) 0 (e_shnum headers.bytes.now)) ∙ ap (λ (e : Elf). length e.sections) c.self.view_is in
    ap (λ (e : Elf). option_map (λ (s : SectionRecord). bytes_eq s.name c.args.name.now) (slice_get e.sections c.args.i)) (sym c.self.view_is)
    ∙ asked_within (section_at headers.bytes.now) (λ (s : SectionRecord). bytes_eq s.name c.args.name.now) (e_shnum headers.bytes.now) c.args.i c.is_named.result (omega (arith, count, c.requires)) c.is_named.ensures
