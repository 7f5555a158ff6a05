use Rattle.elf_module.specs.Elf.{section_of}
use Rattle.elf_module.proofs.Rows.{refused-symbol, passes-symbols}
use Rattle.elf_module.proofs.symbols.find_symbols.Goals as goal

pub returns-in-Some-unnamed-clause-tried : goal.returns-in-Some-unnamed-clause-tried
returns-in-Some-unnamed-clause-tried c =
    refused-symbol c.args.sections.now.headers.bytes.now c.in-Some-string_table.names.now (section_of c.in-Some.symtab) c.in-Some-unnamed.i c.requires.passes
    c.in-Some.ensures.found c.if-symtab-ne0.false c.in-Some-string_table.ensures.0 c.in-Some-string_table.ensures.1 c.in-Some-unnamed.ensures

pub returns-in-None-unnamed-clause-tried : goal.returns-in-None-unnamed-clause-tried
returns-in-None-unnamed-clause-tried c =
    passes-symbols c.args.sections.now.headers.bytes.now c.in-Some-string_table.names.now (section_of c.in-Some.symtab) c.requires.passes
    c.in-Some.ensures.found c.if-symtab-ne0.false c.in-Some-string_table.ensures.0 c.in-Some-string_table.ensures.1 c.in-None-unnamed.ensures
