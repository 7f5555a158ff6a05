-- The entries of a table of whole entries.
use Rattle.std.proofs.Common.{◌≡◌, ◌*◌, ◌/◌, ◌∙◌, ℕ, length, Option, Some, option_map, sym, ap, subst, arith}
use Rattle.elf_module.specs.Elf.{SectionRecord, section_of}
use Rattle.elf_module.specs.declared.records.Section.{Section}
use Rattle.site_tables.specs.declared.entries.TableKind.{TableKind}
use Rattle.site_tables.specs.declared.entries.TableKind.TheVariants.{Jump, Call, Trace}
use Rattle.site_tables.specs.declared.tables.Table.{Table}
use Rattle.site_tables.specs.declared.tables.Tables.{Tables}
use Rattle.site_tables.specs.Entry.{entry_size}
use Rattle.site_tables.specs.Found.{AreWhole, IsWhole, section_in}
use Rattle.site_tables.specs.Tables.{content_of}

-- how many entries whole entries are
pub whole_entries : (kind : TableKind) (bytes count : ℕ) → bytes ≡ count * entry_size kind → bytes / entry_size kind ≡ count
whole_entries Jump bytes count whole = omega arith
whole_entries Call bytes count whole = omega arith
whole_entries Trace bytes count whole = omega arith

-- the section of a table that has one
pub section_there : (table : Table) (section : Section) → table.section ≡ Some section → section_in table ≡ Some (section_of section)
section_there table section is = ap (λ (o : Option Section). option_map section_of o) is

-- how many bytes that section has
pub whole_bytes : (kind : TableKind) (table : Table) (section : Section) → table.section ≡ Some section → IsWhole kind table → length section.content.now ≡ table.count * entry_size kind
whole_bytes kind table section is whole =
    sym (ap (λ (o : Option SectionRecord). length (content_of o)) (section_there table section is)) ∙ whole

-- how many entries it has
pub section_entries : (kind : TableKind) (table : Table) (section : Section) → table.section ≡ Some section → IsWhole kind table → length section.content.now / entry_size kind ≡ table.count
section_entries kind table section is whole = whole_entries kind (length section.content.now) table.count (whole_bytes kind table section is whole)

-- a table is whole entries of its kind
pub whole_of : (table : Table) (kind : TableKind) → table.kind ≡ kind → IsWhole kind table
whole_of table kind same = subst (λ (k : TableKind). IsWhole k table) same table.whole

-- so are the three tables of a file
pub whole_tables : (tables : Tables) → AreWhole tables
whole_tables tables = record {
  jumps = whole_of tables.jumps Jump tables.jumps_kind;
  calls = whole_of tables.calls Call tables.calls_kind;
  traces = whole_of tables.traces Trace tables.traces_kind;
}
