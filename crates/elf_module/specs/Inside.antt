-- What the fields of a file that was read mean.
use Rattle.std.specs.Prelude.{◌<◌, ◌-◌, ◌^◌, length}
use Rattle.elf_module.specs.declared.file.ElfFile.TheInside.{Inside}
use Rattle.elf_module.specs.Elf.{Elf, sections_of, symbols_of, symtab_of}
use Rattle.elf_module.specs.Refusals.{SymbolsAre}

-- the sections and symbols that a file's bytes say
abbrev pub elf_of : Inside → Elf
elf_of f = record { sections = sections_of f.sections.headers.bytes.now; symbols = symbols_of f.sections.headers.bytes.now }

-- the entries are those of the first section of symbols
abbrev pub HasSymbols : Inside → Type 0
HasSymbols f = SymbolsAre f.sections.headers.bytes.now (symtab_of f.sections.headers.bytes.now) f.symbols.entries.now f.symbols.names.now

-- what holds of every file that was read
pub record IsSound (f : Inside) : Type 0 where
  pub symbols : HasSymbols f
  pub short : length f.sections.headers.bytes.now < 2 ^ 32 - 1
