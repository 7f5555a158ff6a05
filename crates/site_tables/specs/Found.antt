-- The tables that are found in a file, and which of them is refused.
use Rattle.std.specs.Prelude.{◌≡◌, ◌≢◌, ℕ, ◌*◌, ◌%◌, List, length, Option, option_map, Result, Ok, Err}
use Rattle.elf_module.specs.Elf.{SectionRecord, section_of}
use Rattle.site_tables.specs.declared.entries.TableKind.{TableKind}
use Rattle.site_tables.specs.declared.entries.TableKind.TheVariants.{Jump, Call, Trace}
use Rattle.site_tables.specs.declared.tables.BadTable.{BadTable}
use Rattle.site_tables.specs.declared.tables.Table.{Table}
use Rattle.site_tables.specs.declared.tables.Tables.{Tables}
use Rattle.site_tables.specs.Entry.{entry_size}
use Rattle.site_tables.specs.Tables.{content_of, table_in}

-- how many bytes a table has
abbrev pub table_len : List SectionRecord → TableKind → ℕ
table_len sections kind = length (content_of (table_in sections kind))

-- a table isn't whole entries
abbrev pub IsBadTable : List SectionRecord → TableKind → Type 0
IsBadTable sections kind = table_len sections kind % entry_size kind ≢ 0

-- the first of them, jumps, calls, traces, that isn't
abbrev pub IsFirstBadTable : List SectionRecord → TableKind → Type 0
IsFirstBadTable sections Jump = IsBadTable sections Jump
IsFirstBadTable sections Call = (¬ IsBadTable sections Jump) × IsBadTable sections Call
IsFirstBadTable sections Trace = (¬ IsBadTable sections Jump) × (¬ IsBadTable sections Call) × IsBadTable sections Trace

-- the section of a table, where there is one
abbrev pub section_in : Table → Option SectionRecord
section_in table = option_map section_of table.section

-- a table of whole entries, with their number
abbrev pub IsWhole : TableKind → Table → Type 0
IsWhole kind table = length (content_of (section_in table)) ≡ table.count * entry_size kind

pub record AreWhole (tables : Tables) : Type 0 where
  pub jumps : IsWhole Jump tables.jumps
  pub calls : IsWhole Call tables.calls
  pub traces : IsWhole Trace tables.traces

-- the tables are those of a file
pub record AreIn (sections : List SectionRecord) (tables : Tables) : Type 0 where
  pub jumps : section_in tables.jumps ≡ table_in sections Jump
  pub calls : section_in tables.calls ≡ table_in sections Call
  pub traces : section_in tables.traces ≡ table_in sections Trace

-- what a table of a kind is found to be among the sections of a file
abbrev pub IsTable : List SectionRecord → TableKind → Result Table BadTable → Type 0
IsTable sections kind (Ok table) = IsWhole kind table × (section_in table ≡ table_in sections kind) × (table.kind ≡ kind)
IsTable sections kind (Err bad) = IsBadTable sections kind × (bad ≡ record { kind = kind; size = table_len sections kind })

-- what the three tables are found to be
abbrev pub AreTables : List SectionRecord → Result Tables BadTable → Type 0
AreTables sections (Ok tables) = AreWhole tables × AreIn sections tables
AreTables sections (Err bad) = IsFirstBadTable sections bad.kind × (bad.size ≡ table_len sections bad.kind)
