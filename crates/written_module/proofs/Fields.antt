-- The fields of what is written, at their offsets.
use Rattle.std.proofs.Common.{◌≡◌, ◌<◌, ◌+◌, ◌^◌, ◌∙◌, ℕ, List, [], ◌∷◌, ◌++◌, length, take, drop, refl, sym, ap, arith}
use Rattle.std.proofs.lemmas.List.{drop-drop, drop_at}
use Rattle.byteorder.specs.Endian.{little_bytes, little_number}
use Rattle.byteorder.specs.Numbers.{little_number-reads_back}
use Rattle.elf_module.specs.Elf.{field, e_type, e_machine, e_version, e_shoff, e_shentsize, e_shnum, e_shstrndx}
use Rattle.elf_build.specs.declared.sections.Header.{Header}
use Rattle.elf_build.specs.File.{section_header, elf_header, symbol}

-- a field at a place is a field of what stands from there on
pub field-drop : (n from at : ℕ) (bytes : List ℕ) → field n (from + at) bytes ≡ field n at (drop from bytes)
unfolding field
field-drop n from at bytes = ap (little_number n) (sym (drop-drop at from bytes))

-- what stands after a list
pub drop-after : (xs ys : List ℕ) (n at : ℕ) → length xs ≡ n → drop (n + at) (xs ++ ys) ≡ drop at ys
drop-after xs ys n at long = sym (drop-drop at n (xs ++ ys)) ∙ ap (λ (l : List ℕ). drop at l) (drop_at xs ys n long)

-- a number in front
pub field-prefix : (n x : ℕ) (rest : List ℕ) → x < 256 ^ n → field n 0 (little_bytes n x ++ rest) ≡ x
unfolding field
field-prefix n x rest below = little_number-reads_back n x rest below

-- the fields of a section's header
module _ (header : Header) (offset size : ℕ) (rest : List ℕ) where
  -- a section header has 64 bytes
  pub length-header : length (section_header header offset size) ≡ 64
  length-header = refl

  -- the place of its name
  pub header-name : header.name < 256 ^ 4 → field 4 0 (section_header header offset size ++ rest) ≡ header.name
  unfolding field
  header-name below = little_number-reads_back 4 header.name [] below

  -- its type
  pub header-kind : header.kind < 256 ^ 4 → field 4 4 (section_header header offset size ++ rest) ≡ header.kind
  unfolding field
  header-kind below = little_number-reads_back 4 header.kind [] below

  -- its flags
  pub header-flags : header.flags < 256 ^ 8 → field 8 8 (section_header header offset size ++ rest) ≡ header.flags
  unfolding field
  header-flags below = little_number-reads_back 8 header.flags [] below

  -- its address
  pub header-addr : header.addr < 256 ^ 8 → field 8 16 (section_header header offset size ++ rest) ≡ header.addr
  unfolding field
  header-addr below = little_number-reads_back 8 header.addr [] below

  -- the offset of its bytes
  pub header-offset : offset < 256 ^ 8 → field 8 24 (section_header header offset size ++ rest) ≡ offset
  unfolding field
  header-offset below = little_number-reads_back 8 offset [] below

  -- how many bytes it has
  pub header-size : size < 256 ^ 8 → field 8 32 (section_header header offset size ++ rest) ≡ size
  unfolding field
  header-size below = little_number-reads_back 8 size [] below

  -- its link
  pub header-link : header.link < 256 ^ 4 → field 4 40 (section_header header offset size ++ rest) ≡ header.link
  unfolding field
  header-link below = little_number-reads_back 4 header.link [] below

-- the fields of the ELF header
module _ (shoff : ℕ) (rest : List ℕ) where
  -- the ELF header has 64 bytes
  pub length-elf_header : length (elf_header shoff) ≡ 64
  unfolding elf_header
  length-elf_header = refl

  -- the magic number
  pub elf-magic : take 4 (elf_header shoff ++ rest) ≡ 0x7f ∷ 0x45 ∷ 0x4c ∷ 0x46 ∷ []
  unfolding elf_header
  elf-magic = refl

  -- 64 bits
  pub elf-class : field 1 4 (elf_header shoff ++ rest) ≡ 2
  unfolding field elf_header
  elf-class = refl

  -- the low byte first
  pub elf-data : field 1 5 (elf_header shoff ++ rest) ≡ 1
  unfolding field elf_header
  elf-data = refl

  -- the version of the identification
  pub elf-ident_version : field 1 6 (elf_header shoff ++ rest) ≡ 1
  unfolding field elf_header
  elf-ident_version = refl

  -- an executable file
  pub elf-type : e_type (elf_header shoff ++ rest) ≡ 2
  unfolding field elf_header
  elf-type = refl

  -- x86-64
  pub elf-machine : e_machine (elf_header shoff ++ rest) ≡ 62
  unfolding field elf_header
  elf-machine = refl

  -- the version of the file
  pub elf-version : e_version (elf_header shoff ++ rest) ≡ 1
  unfolding field elf_header
  elf-version = refl

  -- the offset of the section headers
  pub elf-shoff : shoff < 256 ^ 8 → e_shoff (elf_header shoff ++ rest) ≡ shoff
  unfolding field elf_header
  elf-shoff below = little_number-reads_back 8 shoff [] below

  -- the size of a section header
  pub elf-shentsize : e_shentsize (elf_header shoff ++ rest) ≡ 64
  unfolding field elf_header
  elf-shentsize = refl

  -- nine sections
  pub elf-shnum : e_shnum (elf_header shoff ++ rest) ≡ 9
  unfolding field elf_header
  elf-shnum = refl

  -- the last one has the names
  pub elf-shstrndx : e_shstrndx (elf_header shoff ++ rest) ≡ 8
  unfolding field elf_header
  elf-shstrndx = refl

-- the fields of a symbol
module _ (name info shndx value size : ℕ) (rest : List ℕ) where
  -- the place of its name
  pub symbol-name : name < 256 ^ 4 → field 4 0 (symbol name info shndx value size ++ rest) ≡ name
  unfolding field
  symbol-name below = little_number-reads_back 4 name [] below

  -- its type and binding
  pub symbol-info : field 1 4 (symbol name info shndx value size ++ rest) ≡ info
  unfolding field
  symbol-info = omega arith

  -- its section
  pub symbol-shndx : shndx < 256 ^ 2 → field 2 6 (symbol name info shndx value size ++ rest) ≡ shndx
  unfolding field
  symbol-shndx below = little_number-reads_back 2 shndx [] below

  -- where it stands
  pub symbol-value : value < 256 ^ 8 → field 8 8 (symbol name info shndx value size ++ rest) ≡ value
  unfolding field
  symbol-value below = little_number-reads_back 8 value [] below
