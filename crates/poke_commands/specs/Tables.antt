-- The text of the tables that the program found in a module.
use Rattle.std.specs.Prelude.{ℕ, List, ◌++◌, Result, Ok, Err}
use Rattle.site_tables.specs.declared.entries.TableKind.TheVariants.{Jump, Call, Trace}
use Rattle.site_tables.specs.declared.tables.Tables.{Tables}
use Rattle.site_tables.specs.Found.{section_in}
use Rattle.poke_faults.specs.declared.module_fault.ModuleRefused.{ModuleRefused}
use Rattle.poke_commands.specs.Module.{table_text}

-- the lines of all tables
abbrev pub tables_text : Tables → List ℕ
tables_text tables =
    table_text Jump (section_in tables.jumps) ++ table_text Call (section_in tables.calls) ++ table_text Trace (section_in tables.traces)

-- the text of the tables that were read, or the refusal
abbrev pub text_of : Result Tables ModuleRefused → Result (List ℕ) ModuleRefused
text_of (Ok tables) = Ok (tables_text tables)
text_of (Err why) = Err why
