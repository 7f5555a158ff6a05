-- The entries of the tables that the program found in a file.
use Rattle.std.specs.Prelude.{ℕ, Bool, false, List, ◌++◌, map, Option, Some, None}
use Rattle.elf_module.specs.Elf.{SectionRecord}
use Rattle.site_tables.specs.declared.entries.TableKind.{TableKind}
use Rattle.site_tables.specs.declared.entries.TableKind.TheVariants.{Jump as JumpTable, Call as CallTable, Trace as TraceTable}
use Rattle.site_tables.specs.declared.tables.Tables.{Tables}
use Rattle.site_tables.specs.Entry.{entry_size, jump_in, call_in, trace_in}
use Rattle.site_tables.specs.Found.{section_in}
use Rattle.site_tables.specs.Tables.{entries_in}
use Rattle.module_parts.specs.declared.entry.Entry.{Entry}
use Rattle.module_names.specs.Entries.{is_text, jump_entry, call_entry, trace_entry}

-- there is a section, and it has the text's name
abbrev pub is_text_in : Option SectionRecord → Bool
is_text_in None = false
is_text_in (Some s) = is_text s

-- the entry at an offset of a table of a kind
abbrev pub entry_in : TableKind → ℕ → List ℕ → ℕ → Entry
entry_in JumpTable addr content at = jump_entry (jump_in addr content at)
entry_in CallTable addr content at = call_entry (call_in addr content at)
entry_in TraceTable addr content at = trace_entry (trace_in content at)

-- all entries of the table of a kind in a section
abbrev pub table_entries : TableKind → Option SectionRecord → List Entry
table_entries kind section = entries_in (entry_in kind) (entry_size kind) section

-- the entries of the tables: jumps, then calls, then traces, each in file order
abbrev pub entries_of : Tables → List Entry
entries_of tables =
    map jump_entry (entries_in jump_in (entry_size JumpTable) (section_in tables.jumps))
    ++ (
    map call_entry (entries_in call_in (entry_size CallTable) (section_in tables.calls))
    ++ map trace_entry (entries_in (λ addr. trace_in) (entry_size TraceTable) (section_in tables.traces))
    )
