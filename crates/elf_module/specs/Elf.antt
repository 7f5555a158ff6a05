-- What an ELF64 file says (System V gABI: ELF header, section header, string table, symbol table), field by field.
use Rattle.std.specs.Prelude.{◌==◌, ◌||◌, ◌&&◌, ℕ, ◌+◌, ◌-◌, ◌*◌, ◌/◌, ◌%◌, ◌^◌, Bool, not, nat_lt, nat_le, if◌then◌else◌, List, [], length, take, drop, map, find, slice_index, Option, Some, None, option_map}
use Rattle.std.specs.List.{before_first, range_with_len}
use Rattle.byteorder.specs.Endian.{little_number}
use Rattle.elf_module.specs.declared.records.Section.{Section}
use Rattle.elf_module.specs.declared.records.SectionHeader.{SectionHeader}
use Rattle.elf_module.specs.declared.records.Symbol.{Symbol}
use Rattle.elf_module.specs.declared.records.SymbolEntry.{SymbolEntry}

-- the number in n bytes at an offset, the lowest first
unfoldable pub field : ℕ → ℕ → List ℕ → ℕ
field bytes at file = little_number bytes (drop at file)

-- n bytes of a file from an offset on
abbrev pub piece : ℕ → ℕ → List ℕ → List ℕ
piece at size file = take size (drop at file)

-- section types and flags
abbrev pub sht_null : ℕ
sht_null = 0

abbrev pub sht_symtab : ℕ
sht_symtab = 2

abbrev pub sht_strtab : ℕ
sht_strtab = 3

abbrev pub sht_nobits : ℕ
sht_nobits = 8

-- the flag ALLOC, 2, is set
abbrev pub is_alloc : ℕ → Bool
is_alloc flags = flags / 2 % 2 == 1

-- the ELF header's fields
abbrev pub e_type : List ℕ → ℕ
e_type file = field 2 16 file

abbrev pub e_machine : List ℕ → ℕ
e_machine file = field 2 18 file

abbrev pub e_version : List ℕ → ℕ
e_version file = field 4 20 file

abbrev pub e_shoff : List ℕ → ℕ
e_shoff file = field 8 40 file

abbrev pub e_shentsize : List ℕ → ℕ
e_shentsize file = field 2 58 file

abbrev pub e_shnum : List ℕ → ℕ
e_shnum file = field 2 60 file

abbrev pub e_shstrndx : List ℕ → ℕ
e_shstrndx file = field 2 62 file

-- where the header of a section stands
abbrev pub header_at : List ℕ → ℕ → ℕ
header_at file i = e_shoff file + 64 * i

-- the fields of a section's header
abbrev pub sh_name : List ℕ → ℕ → ℕ
sh_name file i = field 4 (header_at file i) file

abbrev pub sh_type : List ℕ → ℕ → ℕ
sh_type file i = field 4 (header_at file i + 4) file

abbrev pub sh_flags : List ℕ → ℕ → ℕ
sh_flags file i = field 8 (header_at file i + 8) file

abbrev pub sh_addr : List ℕ → ℕ → ℕ
sh_addr file i = field 8 (header_at file i + 16) file

abbrev pub sh_offset : List ℕ → ℕ → ℕ
sh_offset file i = field 8 (header_at file i + 24) file

abbrev pub sh_size : List ℕ → ℕ → ℕ
sh_size file i = field 8 (header_at file i + 32) file

abbrev pub sh_link : List ℕ → ℕ → ℕ
sh_link file i = field 4 (header_at file i + 40) file

-- a section of this type has no bytes in the file
abbrev pub is_empty_type : ℕ → Bool
is_empty_type kind = kind == sht_null || kind == sht_nobits

-- the bytes of a section in the file
abbrev pub content : List ℕ → ℕ → List ℕ
content file i = if is_empty_type (sh_type file i) then [] else piece (sh_offset file i) (sh_size file i) file

-- a name in a string table, up to its ending zero
abbrev pub name_in : List ℕ → ℕ → List ℕ
name_in table at = before_first (λ byte. byte == 0) (drop at table)

-- a section as a record; what holds references in the program holds lists here
pub record SectionRecord : Type 0 where
  pub index : ℕ
  pub name : List ℕ
  pub kind : ℕ
  pub flags : ℕ
  pub addr : ℕ
  pub size : ℕ
  pub link : ℕ
  pub content : List ℕ

pub record SymbolRecord : Type 0 where
  pub name : List ℕ
  pub info : ℕ
  pub shndx : ℕ
  pub value : ℕ

-- the section with this index
abbrev pub section_at : List ℕ → ℕ → SectionRecord
section_at file i = record {
  index = i;
  name = name_in (content file (e_shstrndx file)) (sh_name file i);
  kind = sh_type file i;
  flags = sh_flags file i;
  addr = sh_addr file i;
  size = sh_size file i;
  link = sh_link file i;
  content = content file i;
}

-- all sections, in index order
abbrev pub sections_of : List ℕ → List SectionRecord
sections_of file = map (section_at file) (range_with_len 0 (e_shnum file))

-- the first section of symbols
abbrev pub symtab_of : List ℕ → Option SectionRecord
symtab_of file = find (λ (s : SectionRecord). s.kind == sht_symtab) (sections_of file)

-- the symbol in these bytes, with its name in a string table
abbrev pub symbol_in : List ℕ → List ℕ → SymbolRecord
symbol_in names bytes = record {
  name = name_in names (field 4 0 bytes);
  info = field 1 4 bytes;
  shndx = field 2 6 bytes;
  value = field 8 8 bytes;
}

-- the symbols in entries of 24 bytes each, with their names in a string table
abbrev pub symbols_from : List ℕ → List ℕ → List SymbolRecord
symbols_from entries names = map (λ i. symbol_in names (drop (24 * i) entries)) (range_with_len 0 (length entries / 24))

-- the symbols of a section
abbrev pub symbols_in : List ℕ → SectionRecord → List SymbolRecord
symbols_in file symtab = symbols_from symtab.content (content file symtab.link)

-- all symbols, in order; none where no section has any
abbrev pub symbols_of_table : List ℕ → Option SectionRecord → List SymbolRecord
symbols_of_table file None = []
symbols_of_table file (Some symtab) = symbols_in file symtab

abbrev pub symbols_of : List ℕ → List SymbolRecord
symbols_of file = symbols_of_table file (symtab_of file)

-- a section covers an address
abbrev pub covers : SectionRecord → ℕ → Bool
covers s at = not (s.kind == sht_null) && is_alloc s.flags && nat_le s.addr at && nat_lt (at - s.addr) s.size

-- the byte that a section has at an address that it covers; one without bytes in the file has zeros
abbrev pub byte_at : SectionRecord → ℕ → ℕ
byte_at s at = if s.kind == sht_nobits then 0 else slice_index s.content (at - s.addr)

-- the byte that is loaded at an address: that of the first section that covers it
abbrev pub loaded : List SectionRecord → ℕ → Option ℕ
loaded sections at = option_map (λ s. byte_at s at) (find (λ s. covers s at) sections)

-- the byte that a section has at an address, where it covers it
abbrev pub byte_over : SectionRecord → ℕ → Option ℕ
byte_over s at = if covers s at then Some (byte_at s at) else None

-- the bytes that are loaded at n addresses from one on; addresses wrap modulo 2 ^ 64
abbrev pub loaded_from : List SectionRecord → ℕ → ℕ → List (Option ℕ)
loaded_from sections n at = map (λ i. loaded sections ((at + i) % 2 ^ 64)) (range_with_len 0 n)

-- the records of what the program reads
abbrev pub section_of : Section → SectionRecord
section_of s = record {
  index = s.index;
  name = s.name.now;
  kind = s.kind;
  flags = s.flags;
  addr = s.addr;
  size = s.size;
  link = s.link;
  content = s.content.now;
}

abbrev pub symbol_of : Symbol → SymbolRecord
symbol_of s = record { name = s.name.now; info = s.info; shndx = s.shndx; value = s.value }

-- a section without its name
abbrev pub unnamed : SectionRecord → SectionRecord
unnamed s = record s { name = [] }

abbrev pub header_of : SectionHeader → SectionRecord
header_of s = record {
  index = s.index;
  name = [];
  kind = s.kind;
  flags = s.flags;
  addr = s.addr;
  size = s.size;
  link = s.link;
  content = s.content.now;
}

-- a symbol without its name
abbrev pub entry_of : SymbolRecord → SymbolEntry
entry_of s = record { info = s.info; shndx = s.shndx; value = s.value }

-- what a contract sees of a file that was read
pub record Elf : Type 0 where
  pub sections : List SectionRecord
  pub symbols : List SymbolRecord
