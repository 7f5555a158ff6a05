-- The text of a module, and the places in it that its tables list.
use Rattle.std.specs.Prelude.{ℕ, ◌-◌, Bool, if◌then◌else◌, List, [], ◌++◌, map, find, codes, drop, Option, Some, None, Ok, Err}
use Rattle.std.specs.List.{filter}
use Rattle.std.specs.Str.{bytes_eq}
use Rattle.elf_module.specs.Elf.{Elf, SectionRecord}
use Rattle.site_tables.specs.declared.entries.JumpEntry.{JumpEntry}
use Rattle.site_tables.specs.declared.entries.CallSite.{CallSite}
use Rattle.site_tables.specs.Tables.{jumps_in, calls_in, traces_in}
use Rattle.x64_subset.specs.Reading.{Answer, read}
use Rattle.module_parts.specs.declared.entry.Entry.{Entry}
use Rattle.module_parts.specs.declared.entry.EntryKind.{EntryKind}
use Rattle.module_parts.specs.declared.entry.EntryKind.TheVariants.{Jump, Call, Tail, Trace}

-- the section that holds the text
abbrev pub text_name : List ℕ
text_name = codes ".text"

abbrev pub is_text : SectionRecord → Bool
is_text s = bytes_eq s.name text_name

abbrev pub text_sections : Elf → List SectionRecord
text_sections elf = filter is_text elf.sections

abbrev pub text_section : Elf → Option SectionRecord
text_section elf = find is_text elf.sections

-- its address, its index, and its bytes in the file
abbrev pub base_of : Option SectionRecord → ℕ
base_of None = 0
base_of (Some s) = s.addr

abbrev pub index_of : Option SectionRecord → ℕ
index_of None = 0
index_of (Some s) = s.index

abbrev pub bytes_of : Option SectionRecord → List ℕ
bytes_of None = []
bytes_of (Some s) = s.content

abbrev pub base : Elf → ℕ
base elf = base_of (text_section elf)

abbrev pub text_index : Elf → ℕ
text_index elf = index_of (text_section elf)

abbrev pub file_text : Elf → List ℕ
file_text elf = bytes_of (text_section elf)

-- the entries of the tables: jumps, then calls, then traces, each in file order
abbrev pub jump_entry : JumpEntry → Entry
jump_entry e = record { at = e.code; kind = Jump e.target e.key e.likely }

abbrev pub call_kind : CallSite → EntryKind
call_kind c = if c.tail then Tail c.key else Call c.key

abbrev pub call_entry : CallSite → Entry
call_entry c = record { at = c.addr; kind = call_kind c }

abbrev pub trace_entry : ℕ → Entry
trace_entry at = record { at = at; kind = Trace }

abbrev pub entries : Elf → List Entry
entries elf =
    map jump_entry (jumps_in elf.sections) ++ (map call_entry (calls_in elf.sections) ++ map trace_entry (traces_in elf.sections))

-- how long the instruction at an address of a text is; 0 where none stands there
abbrev pub answer_len : Answer → ℕ
answer_len (Ok (insn, len)) = len
answer_len (Err why) = 0

abbrev pub length_at : ℕ → List ℕ → ℕ → ℕ
length_at base text at = answer_len (read at (drop (at - base) text))
