-- One of the entries of a table, and the name of the section in which it stands.
use Rattle.std.proofs.Common.{◌≡◌, ◌<◌, ◌+◌, ◌*◌, ◌/◌, ◌∙◌, ℕ, Bool, true, false, List, [], ◌∷◌, length, map, cond, Option, Some, refl, sym, ap, arith}
use Rattle.std.specs.List.{find, range_with_len, slice_get}
use Rattle.std.specs.Str.{bytes_eq}
use Rattle.std.proofs.lemmas.List.FromFn.{length-map-range_with_len, get_or-map-range_with_len}
use Rattle.std.proofs.lemmas.Option.{slice_get-get_or}
use Rattle.elf_module.specs.Elf.{SectionRecord, section_of}
use Rattle.elf_module.specs.declared.records.Section.{Section}
use Rattle.site_tables.specs.declared.entries.TableKind.{TableKind}
use Rattle.site_tables.specs.declared.tables.Table.{Table}
use Rattle.site_tables.specs.Entry.{entry_size}
use Rattle.site_tables.specs.Found.{IsWhole, section_in}
use Rattle.site_tables.specs.Tables.{entries_in, has_table_name, table_in, table_name}
use Rattle.site_tables.proofs.Wholes.{section_entries, section_there, whole_of}

-- the first section by the name of a table has that name, where the sections after it that have it do
named_first : (kind : TableKind) (s : SectionRecord) (rest : Option SectionRecord) (same : Bool) → bytes_eq s.name (table_name kind) ≡ same
    → has_table_name kind rest ≡ true → has_table_name kind (cond same (Some s) rest) ≡ true
named_first kind s rest true is others = is
named_first kind s rest false is others = others

-- the section that is found by the name of a table has it
pub named_found : (kind : TableKind) (sections : List SectionRecord) → has_table_name kind (table_in sections kind) ≡ true
named_found kind [] = refl
named_found kind (s ∷ rest) =
    named_first kind s (table_in rest kind) (bytes_eq s.name (table_name kind)) refl (named_found kind rest)

-- so has one that was found by a name which is that of a table
pub named_section : (kind : TableKind) (sections : List SectionRecord) (name : List ℕ) (s : SectionRecord)
    → Some s ≡ find (λ (r : SectionRecord). bytes_eq r.name name) sections → name ≡ table_name kind → bytes_eq s.name (table_name kind) ≡ true
named_section kind sections name s found is =
    ap (λ (o : Option SectionRecord). has_table_name kind o) (found ∙ ap (λ (n : List ℕ). find (λ (r : SectionRecord). bytes_eq r.name n) sections) is)
    ∙ named_found kind sections

-- the entry with a number below the count, where the table has a section
pub entry_there : {A : Type 0} (kind : TableKind) (read : ℕ → List ℕ → ℕ → A) (table : Table) (section : Section) (i : ℕ) (entry : A)
    → table.section ≡ Some section → table.kind ≡ kind → i < table.count → entry ≡ read section.addr section.content.now (entry_size kind * i)
    → slice_get (entries_in read (entry_size kind) (section_in table)) i ≡ Some entry
entry_there kind read table section i entry is same below says =
    let whole : IsWhole kind table = whole_of table kind same in
    let count : length section.content.now / entry_size kind ≡ table.count = section_entries kind table section is whole in
    let read_at = λ (k : ℕ). read section.addr section.content.now (entry_size kind * k) in
    let n = length section.content.now / entry_size kind in
    let within : i < length (map read_at (range_with_len 0 n)) = omega (arith, length-map-range_with_len read_at 0 n) in
    ap (λ (o : Option SectionRecord). slice_get (entries_in read (entry_size kind) o) i) (section_there table section is)
    ∙ slice_get-get_or (map read_at (range_with_len 0 n)) i entry within
    ∙ ap Some (get_or-map-range_with_len read_at 0 n i i entry (omega arith) (omega arith) ∙ sym says)
