use Rattle.std.proofs.Common.{◌≡◌, ◌∙◌, ◌*◌, ◌/◌, ap, sym, arith, drop, length, option_map, slice_get}
use Rattle.std.specs.Str.{bytes_eq}
use Rattle.elf_module.specs.Elf.{Elf, SymbolRecord, symbol_in, symtab_of}
use Rattle.elf_module.proofs.Finding.{asked_within}
use Rattle.elf_module.proofs.SymbolsFrom.{length-symbols_of_table, symbols_of_table-from}
use Rattle.elf_module.proofs.file.ElfFile.is_symbol_named.Goals as goal

pub is_named-requires : goal.is_named-requires
is_named-requires c =
    let file = c.self.inside.sections.headers.bytes.now in
    let symbols = c.self.inside.symbols in
    let count : length c.args.self.now.symbols ≡ length symbols.entries.now / 24 =
    ap (λ (e : Elf). length e.symbols) (sym c.self.view_is) ∙ length-symbols_of_table file (symtab_of file) symbols.entries.now symbols.names.now c.self.invariant.symbols in
    omega (arith, count, c.requires)

pub returns : goal.returns
returns c =
    let file = c.self.inside.sections.headers.bytes.now in
    let symbols = c.self.inside.symbols in
    let entries = symbols.entries.now in
    let ask = λ (s : SymbolRecord). bytes_eq s.name c.args.name.now in
    let count : length c.args.self.now.symbols ≡ length entries / 24 =
    ap (λ (e : Elf). length e.symbols) (sym c.self.view_is) ∙ length-symbols_of_table file (symtab_of file) entries symbols.names.now c.self.invariant.symbols in
    ap (λ (e : Elf). option_map ask (slice_get e.symbols c.args.i)) (sym c.self.view_is)
    ∙ ap (λ ss. option_map ask (slice_get ss c.args.i)) (symbols_of_table-from file (symtab_of file) entries symbols.names.now c.self.invariant.symbols)
    ∙ asked_within (λ k. symbol_in symbols.names.now (drop (24 * k) entries)) ask (length entries / 24) c.args.i c.is_named.result (omega (arith, count, c.requires)) c.is_named.ensures
