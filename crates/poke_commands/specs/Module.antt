-- What `show` says of a module file, and why one is refused.
use Rattle.std.specs.Prelude.{◌≡◌, ◌≤◌, ◌<◌, ℕ, ◌*◌, ◌/◌, if◌then◌else◌, List, [], ◌∷◌, ◌++◌, length, codes, Option, Some, None, Result, Ok, Err}
use Rattle.std.specs.List.{flat_map, range_with_len}
use Rattle.poke_base.specs.Number.{hexadecimal}
use Rattle.elf_module.specs.Elf.{SectionRecord, sections_of}
use Rattle.elf_module.specs.Refusals.{IsRefusal, Passes}
use Rattle.site_tables.specs.declared.entries.JumpEntry.{JumpEntry}
use Rattle.site_tables.specs.declared.entries.CallSite.{CallSite}
use Rattle.site_tables.specs.declared.entries.TableKind.{TableKind}
use Rattle.site_tables.specs.declared.entries.TableKind.TheVariants.{Jump, Call, Trace}
use Rattle.site_tables.specs.Entry.{entry_size, jump_in, call_in, trace_in}
use Rattle.site_tables.specs.Found.{IsBadTable, IsFirstBadTable, table_len}
pub use Rattle.site_tables.specs.Tables.{table_in}
use Rattle.poke_faults.specs.declared.module_fault.ModuleRefused.{ModuleRefused}
use Rattle.poke_faults.specs.declared.module_fault.ModuleRefused.TheVariants.{TooLong, Elf, Image}
use Rattle.module_parts.specs.declared.refused.Refused.TheVariants.{Table}

-- how many bytes a module file may have
abbrev pub module_limit : ℕ
module_limit = 67108864

-- the table of a kind in a file
abbrev pub table_of : List ℕ → TableKind → Option SectionRecord
table_of file kind = table_in (sections_of file) kind

-- the line of a jump entry
abbrev pub jump_line : JumpEntry → List ℕ
jump_line e =
    codes "jump " ++ hexadecimal e.code ++ codes " " ++ hexadecimal e.target ++ codes " " ++ hexadecimal e.key
    ++ (if e.likely then codes " likely" else codes " unlikely") ++ (if e.bit1 then codes " bit1" else []) ++ 10 ∷ []

-- the line of a static call site
abbrev pub call_line : CallSite → List ℕ
call_line c =
    (if c.tail then codes "tail " else codes "call ") ++ hexadecimal c.addr ++ codes " " ++ hexadecimal c.key
    ++ (if c.init then codes " init" else []) ++ 10 ∷ []

-- the line of a traced address
abbrev pub trace_line : ℕ → List ℕ
trace_line at = codes "trace " ++ hexadecimal at ++ 10 ∷ []

-- the line of the entry at an offset of a table
abbrev pub entry_line : TableKind → ℕ → List ℕ → ℕ → List ℕ
entry_line Jump addr content at = jump_line (jump_in addr content at)
entry_line Call addr content at = call_line (call_in addr content at)
entry_line Trace addr content at = trace_line (trace_in content at)

-- the lines of a table, in file order
abbrev pub table_text : TableKind → Option SectionRecord → List ℕ
table_text kind None = []
table_text kind (Some s) =
    flat_map (λ i. entry_line kind s.addr s.content (entry_size kind * i)) (range_with_len 0 (length s.content / entry_size kind))

-- what is shown of a file: jump entries, then calls, then traces
abbrev pub shown_text : List ℕ → List ℕ
shown_text file = table_text Jump (table_of file Jump) ++ table_text Call (table_of file Call) ++ table_text Trace (table_of file Trace)

-- why a module file isn't shown, the first thing that is wrong, or the text that is shown of it
abbrev pub ModuleShows : List ℕ → Result (List ℕ) ModuleRefused → Type 0
ModuleShows file (Err TooLong) = module_limit < length file
ModuleShows file (Err (Elf why)) = (length file ≤ module_limit) × IsRefusal file why
ModuleShows file (Err (Image (Table kind n))) =
    (length file ≤ module_limit) × Passes file 13 × IsFirstBadTable (sections_of file) kind × (n ≡ table_len (sections_of file) kind)
ModuleShows file (Err (Image _)) = ⊥
ModuleShows file (Ok text) =
    (length file ≤ module_limit) × Passes file 13
    × (¬ IsBadTable (sections_of file) Jump) × (¬ IsBadTable (sections_of file) Call) × (¬ IsBadTable (sections_of file) Trace)
    × (text ≡ shown_text file)
