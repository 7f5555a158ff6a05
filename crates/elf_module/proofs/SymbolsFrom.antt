-- The symbols of a file, by the entries that were found.
use Rattle.std.proofs.Common.{◌≡◌, ◌/◌, ◌*◌, ◌∙◌, ℕ, List, length, drop, Option, Some, None, ap, refl}
use Rattle.std.proofs.lemmas.List.FromFn.{length-map-range_with_len}
use Rattle.elf_module.specs.Elf.{SectionRecord, symbol_in, symbols_from, symbols_of_table}
use Rattle.elf_module.specs.Refusals.{SymbolsAre}

-- all symbols are those of the entries of the first section of symbols
pub symbols_of_table-from : (file : List ℕ) (symtab : Option SectionRecord) (entries names : List ℕ) → SymbolsAre file symtab entries names
    → symbols_of_table file symtab ≡ symbols_from entries names
symbols_of_table-from file None entries names are = rw are.0 refl
symbols_of_table-from file (Some symtab) entries names are = rw (are.0, are.1) refl

-- there are as many symbols as entries
pub length-symbols_of_table : (file : List ℕ) (symtab : Option SectionRecord) (entries names : List ℕ) → SymbolsAre file symtab entries names
    → length (symbols_of_table file symtab) ≡ length entries / 24
length-symbols_of_table file symtab entries names are =
    ap length (symbols_of_table-from file symtab entries names are) ∙ length-map-range_with_len (λ (i : ℕ). symbol_in names (drop (24 * i) entries)) 0 (length entries / 24)
