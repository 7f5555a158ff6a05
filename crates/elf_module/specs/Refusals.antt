-- Why a file isn't read as ELF64: conditions in order, of which the first that holds is the answer.
use Rattle.std.specs.Prelude.{◌≡◌, ◌≢◌, ◌<◌, ◌≤◌, ◌⊎◌, ℕ, ◌+◌, ◌*◌, ◌/◌, ◌%◌, false, List, [], ◌∷◌, length, take, drop, Contains, Option, Some, None, Result, MatchResult}
use Rattle.elf_module.specs.declared.refused.ElfRefused.{ElfRefused}
use Rattle.elf_module.specs.declared.refused.ElfRefused.TheVariants.{Short, Magic, Class, Data, Version, Machine, Kind, Relocatable, Headers, Section, Names, Symbols}
use Rattle.elf_module.specs.Elf.{Elf, SectionRecord, field, e_type, e_machine, e_version, e_shoff, e_shentsize, e_shnum, e_shstrndx, sh_type, sh_name, sh_offset, sh_size, is_empty_type, content, sht_strtab, sections_of, symbols_of, symtab_of}

-- i is the first number below n of which P holds
pub record IsFirstBelow (P : ℕ → Type 0) (n i : ℕ) : Type 0 where
  pub below : i < n
  pub holds : P i
  pub before : (k : ℕ) → k < i → P k → ⊥

-- a name with its ending zero stands at this place of a string table
abbrev pub HasName : List ℕ → ℕ → Type 0
HasName table at = Contains (drop at table) 0

-- a section has bytes that reach past the file
abbrev pub ReachesPast : List ℕ → ℕ → Type 0
ReachesPast file i = (is_empty_type (sh_type file i) ≡ false) × (length file < sh_offset file i + sh_size file i)

-- no section has bytes that reach past the file
abbrev pub AreInside : List ℕ → Type 0
AreInside file = (i : ℕ) → i < e_shnum file → is_empty_type (sh_type file i) ≡ false → sh_offset file i + sh_size file i ≤ length file

-- the section with this index is a string table
abbrev pub IsStringTable : List ℕ → ℕ → Type 0
IsStringTable file i = (i < e_shnum file) × (sh_type file i ≡ sht_strtab)

-- a section's name doesn't stand in the table of names
abbrev pub LacksName : List ℕ → ℕ → Type 0
LacksName file i = ¬ HasName (content file (e_shstrndx file)) (sh_name file i)

-- the section of symbols isn't whole entries of 24 bytes, or its names are no string table
abbrev pub IsBadTable : List ℕ → SectionRecord → Type 0
IsBadTable file symtab = (symtab.size % 24 ≢ 0) ⊎ (¬ IsStringTable file symtab.link)

-- a symbol's name doesn't stand in a string table
abbrev pub LacksNameIn : List ℕ → List ℕ → ℕ → Type 0
LacksNameIn names entries i = ¬ HasName names (field 4 (24 * i) entries)

-- a symbol's name doesn't stand in its string table
abbrev pub SymbolLacksName : List ℕ → SectionRecord → ℕ → Type 0
SymbolLacksName file symtab i = LacksNameIn (content file symtab.link) symtab.content i

-- these are the entries of the first section of symbols, and their string table; both empty where there is none
abbrev pub SymbolsAre : List ℕ → Option SectionRecord → List ℕ → List ℕ → Type 0
SymbolsAre file None entries names = (entries ≡ []) × (names ≡ [])
SymbolsAre file (Some symtab) entries names = (entries ≡ symtab.content) × (names ≡ content file symtab.link)

-- what is wrong with the first section of symbols
abbrev pub WrongSymbols : List ℕ → Option SectionRecord → ℕ → Type 0
WrongSymbols file None n = ⊥
WrongSymbols file (Some symtab) n =
    (IsBadTable file symtab × (n ≡ 0))
    ⊎ ((¬ IsBadTable file symtab) × IsFirstBelow (SymbolLacksName file symtab) (length symtab.content / 24) n)

-- what is wrong with the table of section headers: several conditions are tried in this order
abbrev pub WrongHeaders : List ℕ → ℕ → Type 0
WrongHeaders file n =
    ((e_shentsize file ≢ 64) × (n ≡ 0x3a))
    ⊎ ((e_shentsize file ≡ 64) × (e_shnum file ≡ 0) × (n ≡ 0x3c))
    ⊎ ((e_shentsize file ≡ 64) × (0 < e_shnum file) × (length file < e_shoff file + 64 * e_shnum file) × (n ≡ 0x28))
    ⊎ ((e_shentsize file ≡ 64) × (0 < e_shnum file) × (e_shoff file + 64 * e_shnum file ≤ length file) × (e_shnum file ≤ e_shstrndx file) × (n ≡ 0x3e))

-- the condition of each refusal, with its number
abbrev pub Holds : List ℕ → ElfRefused → Type 0
Holds file (Short n) = (length file < 64) × (n ≡ length file)
Holds file (Magic n) = (take 4 file ≢ 0x7f ∷ 0x45 ∷ 0x4c ∷ 0x46 ∷ []) × (n ≡ 0)
Holds file (Class n) = (field 1 4 file ≢ 2) × (n ≡ 4)
Holds file (Data n) = (field 1 5 file ≢ 1) × (n ≡ 5)
Holds file (Version n) =
    ((field 1 6 file ≢ 1) × (n ≡ 6)) ⊎ ((field 1 6 file ≡ 1) × (e_version file ≢ 1) × (n ≡ 0x14))
Holds file (Machine n) = (e_machine file ≢ 62) × (n ≡ 0x12)
Holds file (Kind n) = (e_type file ≢ 1) × (e_type file ≢ 2) × (n ≡ 0x10)
Holds file (Relocatable n) = (e_type file ≡ 1) × (n ≡ 0x10)
Holds file (Headers n) = WrongHeaders file n
Holds file (Section n) = IsFirstBelow (ReachesPast file) (e_shnum file) n
Holds file (Names n) =
    ((sh_type file (e_shstrndx file) ≢ sht_strtab) × (n ≡ e_shstrndx file))
    ⊎ ((sh_type file (e_shstrndx file) ≡ sht_strtab) × IsFirstBelow (LacksName file) (e_shnum file) n)
Holds file (Symbols n) = WrongSymbols file (symtab_of file) n

-- the place of each refusal in the order
abbrev pub order : ElfRefused → ℕ
order (Short n) = 1
order (Magic n) = 2
order (Class n) = 3
order (Data n) = 4
order (Version n) = 5
order (Machine n) = 6
order (Kind n) = 7
order (Relocatable n) = 8
order (Headers n) = 9
order (Section n) = 10
order (Names n) = 11
order (Symbols n) = 12

-- no condition before a place holds
pub record Passes (file : List ℕ) (place : ℕ) : Type 0 where
  pub none : (why : ElfRefused) → order why < place → Holds file why → ⊥

-- the first condition that holds
pub record IsRefusal (file : List ℕ) (why : ElfRefused) : Type 0 where
  pub holds : Holds file why
  pub first : Passes file (order why)

-- a function that tries the condition before a place: none holds up to there, or it is the refusal
abbrev pub Tries : {T : Type 0} → List ℕ → ℕ → Result T ElfRefused → Type 0
Tries file next result = MatchResult result (λ done. Passes file next) (λ why. IsRefusal file why)

-- the file is read as these records: no condition holds, and each field stands at its offset
pub record Reads (file : List ℕ) (elf : Elf) : Type 0 where
  pub passes : Passes file 13
  pub sections : elf.sections ≡ sections_of file
  pub symbols : elf.symbols ≡ symbols_of file
