-- What symbols name, one after the other.
use Rattle.std.proofs.Common.{◌≡◌, ◌<◌, ◌≤◌, ◌+◌, ◌∙◌, ℕ, Bool, true, false, List, [], ◌∷◌, ◌++◌, length, map, drop, get_or, Some, None, if◌then◌else◌, refl, sym, ap, arith, append_assoc}
use Rattle.std.specs.Prelude.{slice_get}
use Rattle.std.proofs.lemmas.List.{append-nil, at_drop_all, drop_more, map-append}
use Rattle.std.proofs.lemmas.Option.{get_or_from_slice_get, slice_get-get_or, slice_get_within}
use Rattle.elf_module.specs.Elf.{SymbolRecord}
use Rattle.module_names.specs.declared.naming.SymbolNames.{SymbolNames}
use Rattle.module_names.specs.Keys.{place_in}
use Rattle.module_names.specs.Names.{Named, value_of, is_function, functions_from, is_key, keys_from}
use Rattle.module_names.specs.Naming.{named_by}
use Rattle.module_names.specs.NamesGiven.{AreNames, IsNamed, function_of, key_number}
use Rattle.module_names.proofs.Named.{value_of-same}

-- a symbol and those after it
pub functions_from-split : (index : ℕ) (s : SymbolRecord) (ss : List SymbolRecord) → functions_from index (s ∷ ss) ≡ functions_from index (s ∷ []) ++ functions_from index ss
functions_from-split index s ss = step (is_function index s)
  where
    step : (b : Bool) → (if b then (s.name, s.value) ∷ functions_from index ss else functions_from index ss)
        ≡ (if b then (s.name, s.value) ∷ [] else []) ++ functions_from index ss
    step true = refl
    step false = refl

pub keys_from-split : (first : ℕ) (keys : List ℕ) (s : SymbolRecord) (ss : List SymbolRecord) → keys_from first keys (s ∷ ss) ≡ keys_from first keys (s ∷ []) ++ keys_from first keys ss
keys_from-split first keys s ss = step (is_key keys s)
  where
    step : (b : Bool) → (if b then (s.name, first + place_in s.value keys) ∷ keys_from first keys ss else keys_from first keys ss)
        ≡ (if b then (s.name, first + place_in s.value keys) ∷ [] else []) ++ keys_from first keys ss
    step true = refl
    step false = refl

-- the symbols from a place on
symbols_from : (symbols : List SymbolRecord) (i : ℕ) (s : SymbolRecord) → slice_get symbols i ≡ Some s → drop i symbols ≡ s ∷ drop (i + 1) symbols
symbols_from symbols i s here =
    drop_more symbols i s (slice_get_within symbols i s here) ∙ ap (λ x. x ∷ drop (i + 1) symbols) (get_or_from_slice_get symbols i s s here)

-- a list that names are found in goes symbol by symbol
module _ (names : List SymbolRecord → List Named) (split : (s : SymbolRecord) (ss : List SymbolRecord) → names (s ∷ ss) ≡ names (s ∷ []) ++ names ss)
    (symbols : List SymbolRecord) (i : ℕ) (s : SymbolRecord) (here : slice_get symbols i ≡ Some s) where
  next : names (drop i symbols) ≡ names (s ∷ []) ++ names (drop (i + 1) symbols)
  next = ap names (symbols_from symbols i s here) ∙ split s (drop (i + 1) symbols)

  pub names_more : (old new : List Named) → ((q : List ℕ) → value_of q new ≡ value_of q (old ++ names (s ∷ [])))
      → ((q : List ℕ) → value_of q (old ++ names (drop i symbols)) ≡ value_of q (names symbols))
      → (q : List ℕ) → value_of q (new ++ names (drop (i + 1) symbols)) ≡ value_of q (names symbols)
  names_more old new added so_far q =
      value_of-same q new (old ++ names (s ∷ [])) (names (drop (i + 1) symbols)) (added q)
      ∙ ap (value_of q) (append_assoc old (names (s ∷ [])) (names (drop (i + 1) symbols)) ∙ ap (λ ns. old ++ ns) (sym next))
      ∙ so_far q

  pub values_more : (old new : List ℕ) → new ≡ old ++ map (λ (n : Named). n.1) (names (s ∷ []))
      → old ++ map (λ (n : Named). n.1) (names (drop i symbols)) ≡ map (λ (n : Named). n.1) (names symbols)
      → new ++ map (λ (n : Named). n.1) (names (drop (i + 1) symbols)) ≡ map (λ (n : Named). n.1) (names symbols)
  values_more old new added so_far =
      let value = λ (n : Named). n.1 in
      ap (λ xs. xs ++ map value (names (drop (i + 1) symbols))) added
      ∙ append_assoc old (map value (names (s ∷ []))) (map value (names (drop (i + 1) symbols)))
      ∙ ap (λ xs. old ++ xs) (sym (map-append value (names (s ∷ [])) (names (drop (i + 1) symbols))) ∙ ap (map value) (sym next))
      ∙ so_far

-- what one symbol names
function_given : (index : ℕ) (s : SymbolRecord) → named_by s.name (function_of index s) ≡ functions_from index (s ∷ [])
function_given index s = by (is_function index s)
  where
    by : (b : Bool) → named_by s.name (if b then Some s.value else None) ≡ (if b then (s.name, s.value) ∷ [] else [])
    by true = refl
    by false = refl

key_given : (first : ℕ) (keys : List ℕ) (s : SymbolRecord) → named_by s.name (key_number first keys s) ≡ keys_from first keys (s ∷ [])
key_given first keys s = by (is_key keys s)
  where
    by : (b : Bool) → named_by s.name (if b then Some (first + place_in s.value keys) else None) ≡ (if b then (s.name, first + place_in s.value keys) ∷ [] else [])
    by true = refl
    by false = refl

-- what was found, with what the symbols that are left name, is all
pub record AreNamesWith (index : ℕ) (jumps calls : List ℕ) (symbols : List SymbolRecord) (i : ℕ) (found : SymbolNames) : Type 0 where
  pub functions : (q : List ℕ) → value_of q (found.functions ++ functions_from index (drop i symbols)) ≡ value_of q (functions_from index symbols)
  pub addresses : found.addresses.items ++ map (λ (n : Named). n.1) (functions_from index (drop i symbols)) ≡ map (λ (n : Named). n.1) (functions_from index symbols)
  pub jump_keys : (q : List ℕ) → value_of q (found.jump_keys ++ keys_from 0 jumps (drop i symbols)) ≡ value_of q (keys_from 0 jumps symbols)
  pub call_keys : (q : List ℕ) → value_of q (found.call_keys ++ keys_from (length jumps) calls (drop i symbols)) ≡ value_of q (keys_from (length jumps) calls symbols)

-- the symbol with a number below the count
symbol_here : (symbols : List SymbolRecord) (i : ℕ) → i < length symbols → (s : SymbolRecord) × (slice_get symbols i ≡ Some s)
symbol_here [] i below = absurd (omega (arith, below))
symbol_here (s ∷ ss) i below = (get_or (s ∷ ss) i s, slice_get-get_or (s ∷ ss) i s below)

-- so it is once one more was looked at
pub one_symbol_more : (index : ℕ) (jumps calls : List ℕ) (symbols : List SymbolRecord) (i : ℕ) (old new : SymbolNames) → i < length symbols
    → ((s : SymbolRecord) → slice_get symbols i ≡ Some s → IsNamed index jumps calls old new s)
    → AreNamesWith index jumps calls symbols i old → AreNamesWith index jumps calls symbols (i + 1) new
one_symbol_more index jumps calls symbols i old new below named so_far =
    let symbol = symbol_here symbols i below in
    let s = symbol.0 in
    let given = named s symbol.1 in
    let function = function_given index s in
    let jump = key_given 0 jumps s in
    let call = key_given (length jumps) calls s in
    record {
      functions = names_more (functions_from index) (functions_from-split index) symbols i s symbol.1 old.functions new.functions
          (λ q. given.functions q ∙ ap (λ ns. value_of q (old.functions ++ ns)) function) so_far.functions;
      addresses = values_more (functions_from index) (functions_from-split index) symbols i s symbol.1 old.addresses.items new.addresses.items
          (given.addresses ∙ ap (λ ns. old.addresses.items ++ map (λ (n : Named). n.1) ns) function) so_far.addresses;
      jump_keys = names_more (keys_from 0 jumps) (keys_from-split 0 jumps) symbols i s symbol.1 old.jump_keys new.jump_keys
          (λ q. given.jump_keys q ∙ ap (λ ns. value_of q (old.jump_keys ++ ns)) jump) so_far.jump_keys;
      call_keys = names_more (keys_from (length jumps) calls) (keys_from-split (length jumps) calls) symbols i s symbol.1 old.call_keys new.call_keys
          (λ q. given.call_keys q ∙ ap (λ ns. value_of q (old.call_keys ++ ns)) call) so_far.call_keys;
    }

-- and once all were
pub all_symbols : (index : ℕ) (jumps calls : List ℕ) (symbols : List SymbolRecord) (i : ℕ) (found : SymbolNames) → length symbols ≤ i
    → AreNamesWith index jumps calls symbols i found → AreNames index jumps calls symbols found
all_symbols index jumps calls symbols i found all so_far = record {
  functions = λ q. ap (value_of q) (sym (append-nil found.functions)) ∙ sym (at_drop_all (λ ss. value_of q (found.functions ++ functions_from index ss)) symbols i all) ∙ so_far.functions q;
  addresses = sym (append-nil found.addresses.items) ∙ sym (at_drop_all (λ ss. found.addresses.items ++ map (λ (n : Named). n.1) (functions_from index ss)) symbols i all) ∙ so_far.addresses;
  jump_keys = λ q. ap (value_of q) (sym (append-nil found.jump_keys)) ∙ sym (at_drop_all (λ ss. value_of q (found.jump_keys ++ keys_from 0 jumps ss)) symbols i all) ∙ so_far.jump_keys q;
  call_keys = λ q. ap (value_of q) (sym (append-nil found.call_keys)) ∙ sym (at_drop_all (λ ss. value_of q (found.call_keys ++ keys_from (length jumps) calls ss)) symbols i all) ∙ so_far.call_keys q;
}
