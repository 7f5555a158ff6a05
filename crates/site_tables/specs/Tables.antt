-- The tables of a module: the sections in which they stand, and all their entries.
use Rattle.std.specs.Prelude.{ℕ, Bool, true, ◌*◌, ◌/◌, List, [], length, map, codes, find, Option, Some, None}
use Rattle.std.specs.List.{range_with_len}
use Rattle.std.specs.Str.{bytes_eq}
use Rattle.elf_module.specs.Elf.{SectionRecord}
use Rattle.site_tables.specs.declared.entries.TableKind.{TableKind}
use Rattle.site_tables.specs.declared.entries.TableKind.TheVariants.{Jump, Call, Trace}
use Rattle.site_tables.specs.declared.entries.JumpEntry.{JumpEntry}
use Rattle.site_tables.specs.declared.entries.CallSite.{CallSite}
use Rattle.site_tables.specs.Entry.{entry_size, jump_in, call_in, trace_in}

-- the section in which a table stands
abbrev pub table_name : TableKind → List ℕ
table_name Jump = codes "__jump_table"
table_name Call = codes ".static_call_sites"
table_name Trace = codes "__mcount_loc"

-- the section, where there is one, has the name of such a table
abbrev pub has_table_name : TableKind → Option SectionRecord → Bool
has_table_name kind None = true
has_table_name kind (Some s) = bytes_eq s.name (table_name kind)

-- the first section of that name
abbrev pub table_in : List SectionRecord → TableKind → Option SectionRecord
table_in sections kind = find (λ (s : SectionRecord). bytes_eq s.name (table_name kind)) sections

-- the bytes of a table; a missing one is empty
abbrev pub content_of : Option SectionRecord → List ℕ
content_of None = []
content_of (Some s) = s.content

-- the entries of a table, each n bytes long, by what the one at an offset says
abbrev pub entries_in : {A : Type 0} → (ℕ → List ℕ → ℕ → A) → ℕ → Option SectionRecord → List A
entries_in read size None = []
entries_in read size (Some s) =
    map (λ i. read s.addr s.content (size * i)) (range_with_len 0 (length s.content / size))

abbrev pub jumps_in : List SectionRecord → List JumpEntry
jumps_in sections = entries_in jump_in (entry_size Jump) (table_in sections Jump)

abbrev pub calls_in : List SectionRecord → List CallSite
calls_in sections = entries_in call_in (entry_size Call) (table_in sections Call)

abbrev pub traces_in : List SectionRecord → List ℕ
traces_in sections = entries_in (λ addr. trace_in) (entry_size Trace) (table_in sections Trace)
