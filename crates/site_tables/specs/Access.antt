-- The entries of a table that was found.
use Rattle.std.specs.Prelude.{ℕ, List}
use Rattle.site_tables.specs.declared.entries.TableKind.TheVariants.{Jump, Call, Trace}
use Rattle.site_tables.specs.declared.entries.JumpEntry.{JumpEntry}
use Rattle.site_tables.specs.declared.entries.CallSite.{CallSite}
use Rattle.site_tables.specs.declared.tables.Table.{Table}
use Rattle.site_tables.specs.Entry.{entry_size, jump_in, call_in, trace_in}
use Rattle.site_tables.specs.Found.{section_in}
use Rattle.site_tables.specs.Tables.{entries_in}

-- all of them, read as jump entries, as static call sites, as traced addresses
abbrev pub jumps_of : Table → List JumpEntry
jumps_of table = entries_in jump_in (entry_size Jump) (section_in table)

abbrev pub calls_of : Table → List CallSite
calls_of table = entries_in call_in (entry_size Call) (section_in table)

abbrev pub traces_of : Table → List ℕ
traces_of table = entries_in (λ addr. trace_in) (entry_size Trace) (section_in table)
