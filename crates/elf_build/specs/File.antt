-- The file that is written of a plan (System V gABI: ELF header, section header, string table, symbol table).
use Rattle.std.specs.Prelude.{ℕ, ◌+◌, ◌-◌, ◌*◌, ◌/◌, ◌^◌, nat_lt, Bool, if◌then◌else◌, List, [], ◌∷◌, ◌++◌, length, drop, replicate, codes}
use Rattle.std.specs.List.{flat_map}
use Rattle.byteorder.specs.Endian.{little_bytes}
use Rattle.elf_build.specs.Gabi.{elfclass64, elfdata2lsb, ev_current, et_exec, em_x86_64, ehdr_size, shdr_size, sym_size, sht_progbits, sht_symtab, sht_strtab, shf_write, shf_alloc, shf_execinstr, stb_global, stt_object, stt_func, symbol_info}
use Rattle.elf_build.specs.declared.tables.PlanTable.{PlanTable}
use Rattle.elf_build.specs.declared.tables.PlanTable.TheVariants.{Jumps, Calls, Traces}
use Rattle.elf_build.specs.declared.sections.Part.{Part}
use Rattle.elf_build.specs.declared.sections.Part.TheVariants.{Text, Entries, Data, Symbols, Names, SectionNames}
use Rattle.elf_build.specs.declared.sections.Header.{Header}
use Rattle.elf_build.specs.declared.plan.Plan.{Plan}
use Rattle.elf_build.specs.declared.plan.PlanSite.{PlanSite}
use Rattle.elf_build.specs.declared.plan.PlanSite.TheVariants.{Jump, Call, Trace}
use Rattle.elf_build.specs.declared.plan.PlanKey.{PlanKey}
use Rattle.elf_build.specs.declared.plan.KeyStart.{KeyStart}
use Rattle.elf_build.specs.declared.plan.KeyStart.TheVariants.{Count, Func}
use Rattle.elf_build.specs.declared.plan.PlanFunction.{PlanFunction}

-- how far from the text's address the tables and the keys stand
abbrev pub jumps_offset : ℕ
jumps_offset = 0x20000

abbrev pub calls_offset : ℕ
calls_offset = 0x30000

abbrev pub traces_offset : ℕ
traces_offset = 0x40000

abbrev pub data_offset : ℕ
data_offset = 0x50000

-- the indices of the sections that others name
abbrev pub text_index : ℕ
text_index = 1

abbrev pub data_index : ℕ
data_index = 5

abbrev pub names_index : ℕ
names_index = 7

abbrev pub section_names_index : ℕ
section_names_index = 8

-- how many sections there are, with the first, which is none
abbrev pub section_count : ℕ
section_count = 9

-- how many bytes a key has
abbrev pub key_size : ℕ
key_size = 16

-- each section begins at a multiple of this
abbrev pub alignment : ℕ
alignment = 16

-- the addresses of the keys
abbrev pub data_at : Plan → ℕ
data_at plan = plan.base + data_offset

abbrev pub key_at : Plan → ℕ → ℕ
key_at plan key = data_at plan + key_size * key

-- a field of n bytes at an address that leads to another
abbrev pub lead : ℕ → ℕ → ℕ → List ℕ
lead bytes field target = little_bytes bytes (target + 2 ^ 64 - field)

abbrev pub flag : Bool → ℕ
flag set = if set then 1 else 0

-- an entry of a table, at its address; a site of another kind has none
abbrev pub entry_bytes : PlanTable → Plan → ℕ → PlanSite → List ℕ
entry_bytes Jumps plan field (Jump at target key likely) =
    lead 4 field at ++ lead 4 (field + 4) target ++ lead 8 (field + 8) (key_at plan key + flag likely)
entry_bytes Jumps plan field (Call at key tail) = []
entry_bytes Jumps plan field (Trace at) = []
entry_bytes Calls plan field (Jump at target key likely) = []
entry_bytes Calls plan field (Call at key tail) = lead 4 field at ++ lead 4 (field + 4) (key_at plan key + flag tail)
entry_bytes Calls plan field (Trace at) = []
entry_bytes Traces plan field (Jump at target key likely) = []
entry_bytes Traces plan field (Call at key tail) = []
entry_bytes Traces plan field (Trace at) = little_bytes 8 at

-- a table: the entries of the sites, each after the one before
abbrev pub table_from : (ℕ → PlanSite → List ℕ) → ℕ → List PlanSite → List ℕ
table_from entry field [] = []
table_from entry field (site ∷ sites) = entry field site ++ table_from entry (field + length (entry field site)) sites

-- the address of a table
abbrev pub table_at : PlanTable → Plan → ℕ
table_at Jumps plan = plan.base + jumps_offset
table_at Calls plan = plan.base + calls_offset
table_at Traces plan = plan.base + traces_offset

abbrev pub table_bytes : PlanTable → Plan → List ℕ
table_bytes table plan = table_from (entry_bytes table plan) (table_at table plan) plan.sites.items

-- what a key holds at the start
abbrev pub start_bytes : KeyStart → List ℕ
start_bytes (Count count) = little_bytes 4 count ++ little_bytes 4 0 ++ little_bytes 8 (flag (nat_lt 0 count))
start_bytes (Func at) = little_bytes 8 at ++ little_bytes 8 0

abbrev pub data_of : List PlanKey → List ℕ
data_of keys = flat_map (λ (key : PlanKey). start_bytes key.start) keys

-- names, each with an ending zero
abbrev pub names_of_functions : List PlanFunction → List ℕ
names_of_functions functions = flat_map (λ (function : PlanFunction). function.name.items ++ 0 ∷ []) functions

abbrev pub names_of_keys : List PlanKey → List ℕ
names_of_keys keys = flat_map (λ (key : PlanKey). key.name.items ++ 0 ∷ []) keys

abbrev pub names_of : Plan → List ℕ
names_of plan = 0 ∷ names_of_functions plan.functions.items ++ names_of_keys plan.keys.items

-- a symbol: the place of its name, its type, its section, where it stands and how many bytes it has
abbrev pub symbol : ℕ → ℕ → ℕ → ℕ → ℕ → List ℕ
symbol name info shndx value size =
    little_bytes 4 name ++ info ∷ 0 ∷ little_bytes 2 shndx ++ little_bytes 8 value ++ little_bytes 8 size

-- the symbols of functions and of keys, whose names stand one after the other from a place on
abbrev pub function_symbols : ℕ → List PlanFunction → List ℕ
function_symbols name [] = []
function_symbols name (function ∷ functions) =
    symbol name (symbol_info stb_global stt_func) text_index function.at 0 ++ function_symbols (name + length function.name.items + 1) functions

abbrev pub key_symbols : ℕ → ℕ → List PlanKey → List ℕ
key_symbols name at [] = []
key_symbols name at (key ∷ keys) =
    symbol name (symbol_info stb_global stt_object) data_index at key_size ++ key_symbols (name + length key.name.items + 1) (at + key_size) keys

abbrev pub named_symbols : Plan → List ℕ
named_symbols plan =
    function_symbols 1 plan.functions.items
    ++ key_symbols (1 + length (names_of_functions plan.functions.items)) (data_at plan) plan.keys.items

-- the symbols, of which the first is all zeros
abbrev pub symbol_table : Plan → List ℕ
symbol_table plan = symbol 0 0 0 0 0 ++ named_symbols plan

-- the header of a section that is loaded at an address, and of a string table
abbrev pub loaded_header : ℕ → ℕ → ℕ → Header
loaded_header name flags addr = record { name = name; kind = sht_progbits; flags = flags; addr = addr; link = 0; info = 0; entsize = 0 }

abbrev pub strings_header : ℕ → Header
strings_header name = record { name = name; kind = sht_strtab; flags = 0; addr = 0; link = 0; info = 0; entsize = 0 }

-- the names of the sections, each with an ending zero
abbrev pub section_names : List ℕ
section_names =
    0 ∷ codes ".text" ++ 0 ∷ codes "__jump_table" ++ 0 ∷ codes ".static_call_sites" ++ 0 ∷ codes "__mcount_loc"
    ++ 0 ∷ codes ".data" ++ 0 ∷ codes ".symtab" ++ 0 ∷ codes ".strtab" ++ 0 ∷ codes ".shstrtab" ++ 0 ∷ []

-- the bytes of a section
abbrev pub part_bytes : Plan → Part → List ℕ
part_bytes plan Text = plan.text.items
part_bytes plan (Entries table) = table_bytes table plan
part_bytes plan Data = data_of plan.keys.items
part_bytes plan Symbols = symbol_table plan
part_bytes plan Names = names_of plan
part_bytes plan SectionNames = section_names

-- what a section's header says beside the place of its bytes; the first symbol that other files see is the second
abbrev pub header_of : Plan → Part → Header
header_of plan Text = loaded_header 1 (shf_alloc + shf_execinstr) plan.base
header_of plan (Entries Jumps) = loaded_header 7 (shf_alloc + shf_write) (table_at Jumps plan)
header_of plan (Entries Calls) = loaded_header 20 (shf_alloc + shf_write) (table_at Calls plan)
header_of plan (Entries Traces) = loaded_header 39 shf_alloc (table_at Traces plan)
header_of plan Data = loaded_header 52 (shf_alloc + shf_write) (data_at plan)
header_of plan Symbols = record { name = 58; kind = sht_symtab; flags = 0; addr = 0; link = names_index; info = 1; entsize = sym_size }
header_of plan Names = strings_header 66
header_of plan SectionNames = strings_header 74

-- the sections but the first, in index order
unfoldable pub parts : List Part
parts = Text ∷ Entries Jumps ∷ Entries Calls ∷ Entries Traces ∷ Data ∷ Symbols ∷ Names ∷ SectionNames ∷ []

-- a section header, with the place of the bytes
abbrev pub section_header : Header → ℕ → ℕ → List ℕ
section_header header offset size =
    little_bytes 4 header.name ++ little_bytes 4 header.kind ++ little_bytes 8 header.flags ++ little_bytes 8 header.addr
    ++ little_bytes 8 offset ++ little_bytes 8 size ++ little_bytes 4 header.link ++ little_bytes 4 header.info
    ++ little_bytes 8 alignment ++ little_bytes 8 header.entsize

-- the ELF header, with the offset of the section headers
unfoldable pub elf_header : ℕ → List ℕ
elf_header shoff =
    0x7f ∷ 0x45 ∷ 0x4c ∷ 0x46 ∷ elfclass64 ∷ elfdata2lsb ∷ ev_current ∷ 0 ∷ little_bytes 8 0
    ++ little_bytes 2 et_exec ++ little_bytes 2 em_x86_64 ++ little_bytes 4 ev_current
    ++ little_bytes 8 0 ++ little_bytes 8 0 ++ little_bytes 8 shoff ++ little_bytes 4 0 ++ little_bytes 2 ehdr_size
    ++ little_bytes 4 0 ++ little_bytes 2 shdr_size ++ little_bytes 2 section_count ++ little_bytes 2 section_names_index

-- a file, with zeros up to the next multiple of 16
abbrev pub filled : List ℕ → List ℕ
filled file = file ++ replicate ((length file + 15) / 16 * 16 - length file) 0

-- the file with the contents of sections at its end, each at a multiple of 16, and filled up
abbrev pub laid : Plan → List ℕ → List Part → List ℕ
laid plan file [] = filled file
laid plan file (part ∷ parts) = laid plan (filled file ++ part_bytes plan part) parts

-- the headers of these sections
abbrev pub headers_from : Plan → List ℕ → List Part → List ℕ
headers_from plan file [] = []
headers_from plan file (part ∷ parts) =
    section_header (header_of plan part) (length (filled file)) (length (part_bytes plan part))
    ++ headers_from plan (filled file ++ part_bytes plan part) parts

-- the contents, after the place of the ELF header
abbrev pub body : Plan → List ℕ
body plan = laid plan (replicate 64 0) parts

-- the file: the ELF header, the contents, and the section headers, of which the first is all zeros
abbrev pub file_of : Plan → List ℕ
file_of plan =
    elf_header (length (body plan)) ++ drop 64 (body plan) ++ replicate 64 0 ++ headers_from plan (replicate 64 0) parts
