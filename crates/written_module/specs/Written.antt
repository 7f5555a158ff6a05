-- What is read of the file that is written of a plan.
use Rattle.std.specs.Prelude.{◌≡◌, ◌<◌, ◌≤◌, ℕ, ◌+◌, false, true, List, [], ◌∷◌, ◌++◌, length, map, codes, slice_get, slice_index, Some}
use Rattle.std.specs.List.{flat_map}
use Rattle.elf_module.specs.Elf.{SectionRecord, SymbolRecord, sections_of, symbols_of, loaded}
use Rattle.elf_module.specs.Refusals.{Passes}
use Rattle.site_tables.specs.declared.entries.JumpEntry.{JumpEntry}
use Rattle.site_tables.specs.declared.entries.CallSite.{CallSite}
use Rattle.site_tables.specs.Tables.{jumps_in, calls_in, traces_in}
use Rattle.elf_build.specs.declared.tables.PlanTable.TheVariants.{Jumps, Calls, Traces}
use Rattle.elf_build.specs.declared.sections.Part.{Part}
use Rattle.elf_build.specs.declared.sections.Part.TheVariants.{Text, Entries, Data, Symbols, Names, SectionNames}
use Rattle.elf_build.specs.declared.plan.Plan.{Plan}
use Rattle.elf_build.specs.declared.plan.PlanSite.{PlanSite}
use Rattle.elf_build.specs.declared.plan.PlanSite.TheVariants.{Jump, Call, Trace}
use Rattle.elf_build.specs.declared.plan.PlanKey.{PlanKey}
use Rattle.elf_build.specs.declared.plan.PlanFunction.{PlanFunction}
use Rattle.elf_build.specs.Gabi.{stb_global, stt_func, stt_object, symbol_info}
use Rattle.elf_build.specs.Fits.{fits}
use Rattle.elf_build.specs.File.{file_of, parts, header_of, part_bytes, key_at, key_size, data_at, data_index, text_index, start_bytes}

-- the name of a section
abbrev pub part_name : Part → List ℕ
part_name Text = codes ".text"
part_name (Entries Jumps) = codes "__jump_table"
part_name (Entries Calls) = codes ".static_call_sites"
part_name (Entries Traces) = codes "__mcount_loc"
part_name Data = codes ".data"
part_name Symbols = codes ".symtab"
part_name Names = codes ".strtab"
part_name SectionNames = codes ".shstrtab"

-- a section of the plan, and the sections from an index on
abbrev pub section_of_part : Plan → ℕ → Part → SectionRecord
section_of_part plan index part =
    let header = header_of plan part in
    record {
      index = index;
      name = part_name part;
      kind = header.kind;
      flags = header.flags;
      addr = header.addr;
      size = length (part_bytes plan part);
      link = header.link;
      content = part_bytes plan part;
    }

abbrev pub sections_from : Plan → ℕ → List Part → List SectionRecord
sections_from plan index [] = []
sections_from plan index (part ∷ parts) = section_of_part plan index part ∷ sections_from plan (index + 1) parts

-- the first section is all zeros
abbrev pub no_section : SectionRecord
no_section = record { index = 0; name = []; kind = 0; flags = 0; addr = 0; size = 0; link = 0; content = [] }

-- the first symbol is all zeros; a function is a symbol of the text, a key one of the data
abbrev pub no_symbol : SymbolRecord
no_symbol = record { name = []; info = 0; shndx = 0; value = 0 }

abbrev pub function_symbol : PlanFunction → SymbolRecord
function_symbol function = record { name = function.name.items; info = symbol_info stb_global stt_func; shndx = text_index; value = function.at }

abbrev pub key_symbols_from : ℕ → List PlanKey → List SymbolRecord
key_symbols_from at [] = []
key_symbols_from at (key ∷ keys) =
    record { name = key.name.items; info = symbol_info stb_global stt_object; shndx = data_index; value = at } ∷ key_symbols_from (at + key_size) keys

-- the entry of a table that a site is; one of another kind is none
abbrev pub jump_of : Plan → PlanSite → List JumpEntry
jump_of plan (Jump at target key likely) =
    record { code = at; target = target; key = key_at plan key; likely = likely; bit1 = false } ∷ []
jump_of plan (Call at key tail) = []
jump_of plan (Trace at) = []

abbrev pub call_of : Plan → PlanSite → List CallSite
call_of plan (Jump at target key likely) = []
call_of plan (Call at key tail) = record { addr = at; key = key_at plan key; tail = tail; init = false } ∷ []
call_of plan (Trace at) = []

abbrev pub trace_of : PlanSite → List ℕ
trace_of (Jump at target key likely) = []
trace_of (Call at key tail) = []
trace_of (Trace at) = at ∷ []

abbrev pub file_jumps : List ℕ → List JumpEntry
file_jumps file = jumps_in (sections_of file)

abbrev pub file_calls : List ℕ → List CallSite
file_calls file = calls_in (sections_of file)

abbrev pub file_traces : List ℕ → List ℕ
file_traces file = traces_in (sections_of file)

-- how many bytes a module file may have
abbrev pub module_limit : ℕ
module_limit = 67108864

-- the file of a plan is short enough to be read as a module, and says what the plan does: the same sections, and in
-- the same order the same entries, functions and keys, which hold what the plan has them start with
pub record ReadsBack (plan : Plan) : Type 0 where
  pub within : length (file_of plan) ≤ module_limit
  pub passes : Passes (file_of plan) 13
  pub sections : sections_of (file_of plan) ≡ no_section ∷ sections_from plan 1 parts
  pub jumps : file_jumps (file_of plan) ≡ flat_map (jump_of plan) plan.sites.items
  pub calls : file_calls (file_of plan) ≡ flat_map (call_of plan) plan.sites.items
  pub traces : file_traces (file_of plan) ≡ flat_map trace_of plan.sites.items
  pub symbols : symbols_of (file_of plan) ≡ no_symbol ∷ map function_symbol plan.functions.items ++ key_symbols_from (data_at plan) plan.keys.items
  pub keys : (i : ℕ) (key : PlanKey) (j : ℕ) → slice_get plan.keys.items i ≡ Some key → j < key_size
      → loaded (sections_of (file_of plan)) (key_at plan i + j) ≡ Some (slice_index (start_bytes key.start) j)

-- every file that is written reads back
abbrev pub WrittenReadsBack : Type 0
WrittenReadsBack = (plan : Plan) → fits plan ≡ true → ReadsBack plan
