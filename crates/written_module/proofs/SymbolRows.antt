-- The symbols that are read of the file of a plan.
use Rattle.std.proofs.Common.{◌≡◌, ◌<◌, ◌≤◌, ◌+◌, ◌*◌, ◌/◌, ◌^◌, ◌∙◌, ℕ, zero, suc, true, List, [], ◌∷◌, ◌++◌, length, map, drop, Some, refl, sym, ap, subst, arith, append_assoc}
use Rattle.std.specs.Prelude.{nat_eq}
use Rattle.std.specs.List.{find, range_with_len, list_all}
use Rattle.std.proofs.lemmas.Bool.{and_parts}
use Rattle.elf_module.specs.Elf.{SectionRecord, SymbolRecord, field, content, sections_of, name_in, symbol_in, symbols_from, symbols_of, symbols_of_table, symtab_of}
use Rattle.elf_module.specs.Refusals.{HasName}
use Rattle.elf_build.specs.declared.sections.Part.TheVariants.{Symbols}
use Rattle.elf_build.specs.declared.plan.Plan.{Plan}
use Rattle.elf_build.specs.declared.plan.PlanKey.{PlanKey}
use Rattle.elf_build.specs.declared.plan.PlanFunction.{PlanFunction}
use Rattle.elf_build.specs.Fits.{function_fits, is_in_text, is_name, key_fits, start_fits}
use Rattle.elf_build.specs.File.{data_at, names_of, parts, symbol_table, symbol, function_symbols, key_symbols, names_of_functions, names_of_keys}
use Rattle.written_module.specs.Written.{no_section, no_symbol, section_of_part, sections_from, function_symbol, key_symbols_from}
use Rattle.written_module.proofs.Fields.{field-drop, symbol-name, symbol-info, symbol-shndx, symbol-value}
use Rattle.written_module.proofs.Bounds.{Bounds, name-full, length-names, length-symbols}
use Rattle.written_module.proofs.Rows.{rows-more, next-drop}
use Rattle.written_module.proofs.NamePlaces.{name-read, name-there, name-next, prefix-short, longer-prefix}
use Rattle.written_module.proofs.Tables.{inside}

-- a symbol is read as it was written
pub symbol-read : (names : List ℕ) (name info shndx value size : ℕ) (rest text : List ℕ) → name < 256 ^ 4 → shndx < 256 ^ 2 → value < 256 ^ 8 → name_in names name ≡ text
    → symbol_in names (symbol name info shndx value size ++ rest) ≡ record { name = text; info = info; shndx = shndx; value = value }
symbol-read names name info shndx value size rest text name_fits shndx_fits value_fits is =
    let name_is = ap (name_in names) (symbol-name name info shndx value size rest name_fits) ∙ is in
    let info_is = symbol-info name info shndx value size rest in
    let shndx_is = symbol-shndx name info shndx value size rest shndx_fits in
    let value_is = symbol-value name info shndx value size rest value_fits in
    λ i. record { name = name_is i; info = info_is i; shndx = shndx_is i; value = value_is i }

-- values are the symbols that stand in entries one after the other
abbrev pub AreSymbols : List ℕ → List ℕ → (ℕ → SymbolRecord) → Type 0
AreSymbols names entries f = (i : ℕ) → f i ≡ symbol_in names (drop (24 * i) entries)

-- a symbol in front
symbols-more : (names : List ℕ) (name info shndx value size : ℕ) (rest : List ℕ) (x : SymbolRecord) (more : List SymbolRecord)
    → symbol_in names (symbol name info shndx value size ++ rest) ≡ x
    → ((g : ℕ → SymbolRecord) → AreSymbols names rest g → map g (range_with_len 0 (length rest / 24)) ≡ more)
    → (f : ℕ → SymbolRecord) → AreSymbols names (symbol name info shndx value size ++ rest) f
    → map f (range_with_len 0 (length (symbol name info shndx value size ++ rest) / 24)) ≡ x ∷ more
symbols-more names name info shndx value size rest x more is others f reads =
    rows-more f 24 (symbol name info shndx value size) rest x more (omega arith) refl (reads 0 ∙ is)
    (others (λ i. f (i + 1)) (λ i. reads (i + 1) ∙ ap (symbol_in names) (next-drop 24 i (symbol name info shndx value size) rest refl)))

-- the functions are read, whose names stand in the table from a place on
pub functions-read : (plan : Plan) → Bounds plan → (names tail rest : List ℕ) (more : List SymbolRecord) → length names < 256 ^ 4
    → ((g : ℕ → SymbolRecord) → AreSymbols names rest g → map g (range_with_len 0 (length rest / 24)) ≡ more)
    → (functions : List PlanFunction) (prefix : List ℕ) (name : ℕ) → name ≡ length prefix → names ≡ prefix ++ (names_of_functions functions ++ tail)
    → list_all (function_fits plan) functions ≡ true → (f : ℕ → SymbolRecord) → AreSymbols names (function_symbols name functions ++ rest) f
    → map f (range_with_len 0 (length (function_symbols name functions ++ rest) / 24)) ≡ map function_symbol functions ++ more
functions-read plan ok names tail rest more short others [] prefix name place is all f reads = others f reads
functions-read plan ok names tail rest more short others (function ∷ functions) prefix name place is all f reads =
    let text = function.name.items in
    let parts = and_parts (function_fits plan function) (list_all (function_fits plan) functions) all in
    let fits = and_parts (is_name text) (is_in_text plan function.at) parts.0 in
    let here = inside plan ok function.at fits.1 in
    let low = ok.low in
    let stands : names ≡ prefix ++ ((text ++ 0 ∷ []) ++ (names_of_functions functions ++ tail)) =
    is ∙ ap (λ (l : List ℕ). prefix ++ l) (append_assoc (text ++ 0 ∷ []) (names_of_functions functions) tail) in
    let below = prefix-short names prefix text (names_of_functions functions ++ tail) stands in
    let name_is : name_in names name ≡ text = ap (name_in names) place ∙ name-read names prefix text (names_of_functions functions ++ tail) stands (name-full text fits.0) in
    let next_place : name + length text + 1 ≡ length (prefix ++ (text ++ 0 ∷ [])) = ap (λ (n : ℕ). n + length text + 1) place ∙ sym (longer-prefix prefix text) in
    symbols-more names name 0x12 1 function.at 0 (function_symbols (name + length text + 1) functions ++ rest) (function_symbol function) (map function_symbol functions ++ more)
    (symbol-read names name 0x12 1 function.at 0 (function_symbols (name + length text + 1) functions ++ rest) text (omega arith) (omega arith) (omega arith) name_is)
    (functions-read plan ok names tail rest more short others functions (prefix ++ (text ++ 0 ∷ [])) (name + length text + 1) next_place
    (name-next names prefix text (names_of_functions functions ++ tail) stands) parts.1)
    f reads

-- the keys are read
pub keys-read : (names : List ℕ) → length names < 256 ^ 4 → (keys : List PlanKey) (prefix : List ℕ) (name at : ℕ) → name ≡ length prefix → names ≡ prefix ++ names_of_keys keys
    → list_all key_fits keys ≡ true → at + 16 * length keys ≤ 256 ^ 8 → (f : ℕ → SymbolRecord) → AreSymbols names (key_symbols name at keys) f
    → map f (range_with_len 0 (length (key_symbols name at keys) / 24)) ≡ key_symbols_from at keys
keys-read names short [] prefix name at place is all low f reads = refl
keys-read names short (key ∷ keys) prefix name at place is all low f reads =
    let text = key.name.items in
    let parts = and_parts (key_fits key) (list_all key_fits keys) all in
    let fits = and_parts (is_name text) (start_fits key.start) parts.0 in
    let below = prefix-short names prefix text (names_of_keys keys) is in
    let name_is : name_in names name ≡ text = ap (name_in names) place ∙ name-read names prefix text (names_of_keys keys) is (name-full text fits.0) in
    let next_place : name + length text + 1 ≡ length (prefix ++ (text ++ 0 ∷ [])) = ap (λ (n : ℕ). n + length text + 1) place ∙ sym (longer-prefix prefix text) in
    symbols-more names name 0x11 5 at 16 (key_symbols (name + length text + 1) (at + 16) keys) (record { name = text; info = 0x11; shndx = 5; value = at }) (key_symbols_from (at + 16) keys)
    (symbol-read names name 0x11 5 at 16 (key_symbols (name + length text + 1) (at + 16) keys) text (omega arith) (omega arith) (omega arith) name_is)
    (keys-read names short keys (prefix ++ (text ++ 0 ∷ [])) (name + length text + 1) (at + 16) next_place
    (name-next names prefix text (names_of_keys keys) is) parts.1 (omega arith))
    f reads

-- a symbol in front, whose name stands in the table
have-more : (names : List ℕ) (name info shndx value size : ℕ) (rest : List ℕ) (n : ℕ) → name < 256 ^ 4 → HasName names name
    → ((j : ℕ) → j < n → HasName names (field 4 (24 * j) rest)) → (k : ℕ) → k < suc n
    → HasName names (field 4 (24 * k) (symbol name info shndx value size ++ rest))
have-more names name info shndx value size rest n fits has others zero below =
    subst (HasName names) (sym (symbol-name name info shndx value size rest fits)) has
have-more names name info shndx value size rest n fits has others (suc j) below =
    let place : 24 * suc j ≡ 24 + 24 * j = omega arith in
    let is : field 4 (24 * suc j) (symbol name info shndx value size ++ rest) ≡ field 4 (24 * j) rest =
    ap (λ (at : ℕ). field 4 at (symbol name info shndx value size ++ rest)) place
    ∙ field-drop 4 24 (24 * j) (symbol name info shndx value size ++ rest) in
    subst (HasName names) (sym is) (others j (omega arith))

-- the name of each function stands in the table
pub functions-have : (names tail rest : List ℕ) (n : ℕ) → length names < 256 ^ 4 → ((j : ℕ) → j < n → HasName names (field 4 (24 * j) rest))
    → (functions : List PlanFunction) (prefix : List ℕ) (name : ℕ) → name ≡ length prefix → names ≡ prefix ++ (names_of_functions functions ++ tail)
    → (k : ℕ) → k < length functions + n → HasName names (field 4 (24 * k) (function_symbols name functions ++ rest))
functions-have names tail rest n short others [] prefix name place is k below = others k (omega arith)
functions-have names tail rest n short others (function ∷ functions) prefix name place is k below =
    let text = function.name.items in
    let stands : names ≡ prefix ++ ((text ++ 0 ∷ []) ++ (names_of_functions functions ++ tail)) =
    is ∙ ap (λ (l : List ℕ). prefix ++ l) (append_assoc (text ++ 0 ∷ []) (names_of_functions functions) tail) in
    let inside_it = prefix-short names prefix text (names_of_functions functions ++ tail) stands in
    let next_place : name + length text + 1 ≡ length (prefix ++ (text ++ 0 ∷ [])) = ap (λ (n : ℕ). n + length text + 1) place ∙ sym (longer-prefix prefix text) in
    have-more names name 0x12 1 function.at 0 (function_symbols (name + length text + 1) functions ++ rest) (length functions + n) (omega arith)
    (subst (HasName names) (sym place) (name-there names prefix text (names_of_functions functions ++ tail) stands))
    (functions-have names tail rest n short others functions (prefix ++ (text ++ 0 ∷ [])) (name + length text + 1) next_place
    (name-next names prefix text (names_of_functions functions ++ tail) stands))
    k (omega arith)

-- the name of each key does
pub keys-have : (names : List ℕ) → length names < 256 ^ 4 → (keys : List PlanKey) (prefix : List ℕ) (name at : ℕ) → name ≡ length prefix → names ≡ prefix ++ names_of_keys keys
    → (k : ℕ) → k < length keys → HasName names (field 4 (24 * k) (key_symbols name at keys))
keys-have names short [] prefix name at place is k below = absurd (omega arith)
keys-have names short (key ∷ keys) prefix name at place is k below =
    let text = key.name.items in
    let inside_it = prefix-short names prefix text (names_of_keys keys) is in
    let next_place : name + length text + 1 ≡ length (prefix ++ (text ++ 0 ∷ [])) = ap (λ (n : ℕ). n + length text + 1) place ∙ sym (longer-prefix prefix text) in
    have-more names name 0x11 5 at 16 (key_symbols (name + length text + 1) (at + 16) keys) (length keys) (omega arith)
    (subst (HasName names) (sym place) (name-there names prefix text (names_of_keys keys) is))
    (keys-have names short keys (prefix ++ (text ++ 0 ∷ [])) (name + length text + 1) (at + 16) next_place (name-next names prefix text (names_of_keys keys) is))
    k (omega arith)

-- the section of symbols is found among the sections of a plan
symtab-found : (plan : Plan) → find (λ (s : SectionRecord). nat_eq s.kind 2) (no_section ∷ sections_from plan 1 parts) ≡ Some (section_of_part plan 6 Symbols)
unfolding parts
symtab-found plan = refl

-- so it is in a file that has these sections
pub symtab-is : (plan : Plan) (file : List ℕ) → sections_of file ≡ no_section ∷ sections_from plan 1 parts → symtab_of file ≡ Some (section_of_part plan 6 Symbols)
symtab-is plan file read = ap (find (λ (s : SectionRecord). nat_eq s.kind 2)) read ∙ symtab-found plan

-- the first function's name stands after a zero, and the first key's after the functions'
module _ (plan : Plan) (ok : Bounds plan) where
  -- the places of names fit their fields
  names-short : length (names_of plan) < 256 ^ 4
  names-short = let n = length-names plan ok in omega arith

  -- the keys' names stand after the functions'
  names-keys : names_of plan ≡ (0 ∷ names_of_functions plan.functions.items) ++ names_of_keys plan.keys.items
  names-keys = refl

  -- where they begin
  keys-place : 1 + length (names_of_functions plan.functions.items) ≡ length (0 ∷ names_of_functions plan.functions.items)
  keys-place = omega arith

  -- the symbols are read as the functions and keys
  pub symbols-are : symbols_from (symbol_table plan) (names_of plan)
      ≡ no_symbol ∷ map function_symbol plan.functions.items ++ key_symbols_from (data_at plan) plan.keys.items
  symbols-are =
      let names = names_of plan in
      let few = ok.keys in
      let low = ok.low in
      let keys = key_symbols (1 + length (names_of_functions plan.functions.items)) (data_at plan) plan.keys.items in
      symbols-more names 0 0 0 0 0 (function_symbols 1 plan.functions.items ++ keys) no_symbol (map function_symbol plan.functions.items ++ key_symbols_from (data_at plan) plan.keys.items)
      (symbol-read names 0 0 0 0 0 (function_symbols 1 plan.functions.items ++ keys) [] (omega arith) (omega arith) (omega arith) refl)
      (functions-read plan ok names (names_of_keys plan.keys.items) keys (key_symbols_from (data_at plan) plan.keys.items) names-short
      (keys-read names names-short plan.keys.items (0 ∷ names_of_functions plan.functions.items) (1 + length (names_of_functions plan.functions.items)) (data_at plan)
      keys-place names-keys ok.all_keys (omega arith))
      plan.functions.items (0 ∷ []) 1 refl refl ok.all_functions)
      (λ i. symbol_in names (drop (24 * i) (symbol_table plan))) (λ i. refl)

  -- the name of each symbol stands in the table
  pub symbols-have : (k : ℕ) → k < length (symbol_table plan) / 24 → HasName (names_of plan) (field 4 (24 * k) (symbol_table plan))
  symbols-have k below =
      let names = names_of plan in
      let count = length-symbols plan ok in
      let keys = key_symbols (1 + length (names_of_functions plan.functions.items)) (data_at plan) plan.keys.items in
      have-more names 0 0 0 0 0 (function_symbols 1 plan.functions.items ++ keys) (length plan.functions.items + length plan.keys.items) (omega arith) (0, omega arith, refl)
      (functions-have names (names_of_keys plan.keys.items) keys (length plan.keys.items) names-short
      (keys-have names names-short plan.keys.items (0 ∷ names_of_functions plan.functions.items) (1 + length (names_of_functions plan.functions.items)) (data_at plan) keys-place names-keys)
      plan.functions.items (0 ∷ []) 1 refl refl)
      k (omega arith)

  -- all symbols of the file
  pub symbols-all : (file : List ℕ) → sections_of file ≡ no_section ∷ sections_from plan 1 parts → content file 7 ≡ names_of plan
      → symbols_of file ≡ no_symbol ∷ map function_symbol plan.functions.items ++ key_symbols_from (data_at plan) plan.keys.items
  symbols-all file read names =
      ap (symbols_of_table file) (symtab-is plan file read) ∙ ap (symbols_from (symbol_table plan)) names ∙ symbols-are
