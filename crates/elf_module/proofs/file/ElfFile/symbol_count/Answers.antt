use Rattle.std.proofs.Common.{◌∙◌, ap, sym, length}
use Rattle.elf_module.specs.Elf.{Elf, symtab_of}
use Rattle.elf_module.proofs.SymbolsFrom.{length-symbols_of_table}
use Rattle.elf_module.proofs.file.ElfFile.symbol_count.Goals as goal

pub returns : goal.returns
returns c =
    let file = c.self.inside.sections.headers.bytes.now in
    let symbols = c.self.inside.symbols in
    c.count.ensures ∙ sym (length-symbols_of_table file (symtab_of file) symbols.entries.now symbols.names.now c.self.invariant.symbols) ∙ ap (λ (e : Elf). length e.symbols) c.self.view_is
