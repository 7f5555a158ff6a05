-- The bytes that are loaded by the sections of a list, and by one more.
use Rattle.std.proofs.Common.{◌≡◌, ◌<◌, ◌+◌, ◌%◌, ◌^◌, ◌∙◌, ℕ, Bool, true, false, if◌then◌else◌, List, [], ◌∷◌, ◌++◌, get_or, map, Option, Some, None, option_map, refl, sym, ap, arith}
use Rattle.std.specs.List.{find, range_with_len}
use Rattle.std.specs.Option.{option_or}
use Rattle.std.proofs.lemmas.List.FromFn.{length-map-range_with_len, get_or-map-range_with_len, fill_by_all}
use Rattle.elf_module.specs.Elf.{SectionRecord, byte_at, byte_over, covers, loaded, loaded_from}

-- one section more is asked where those before it have nothing
loaded_more : (sections : List SectionRecord) (s : SectionRecord) (at : ℕ) → loaded (sections ++ s ∷ []) at ≡ option_or (loaded sections at) (byte_over s at)
loaded_more [] s at = by (covers s at)
  where
    by : (covered : Bool) → option_map (λ x. byte_at x at) (if covered then Some s else None) ≡ (if covered then Some (byte_at s at) else None)
    by true = refl
    by false = refl
loaded_more (x ∷ xs) s at = by (covers x at) (loaded_more xs s at)
  where
    by : (covered : Bool) → loaded (xs ++ s ∷ []) at ≡ option_or (loaded xs at) (byte_over s at)
        → option_map (λ y. byte_at y at) (if covered then Some x else find (λ y. covers y at) (xs ++ s ∷ []))
        ≡ option_or (option_map (λ y. byte_at y at) (if covered then Some x else find (λ y. covers y at) xs)) (byte_over s at)
    by true later = refl
    by false later = later

-- where it has no byte that is missing, it changes nothing
or_nothing : (s : SectionRecord) (at : ℕ) (byte : Option ℕ) → (byte ≡ None → covers s at ≡ false) → option_or byte (byte_over s at) ≡ byte
or_nothing s at None aside = rw (aside refl) refl
or_nothing s at (Some byte) aside = refl

-- two lists of a function of the index are one where the functions agree
same_values : {X : Type 0} (f g : ℕ → X) (n : ℕ) (d : X) → ((k : ℕ) → k < n → f k ≡ g k) → map f (range_with_len 0 n) ≡ map g (range_with_len 0 n)
same_values f g n d same =
    fill_by_all g (map f (range_with_len 0 n)) n d (length-map-range_with_len f 0 n) (λ k lt. get_or-map-range_with_len f 0 n k k d lt (omega arith) ∙ same k lt)

byte_loaded : (sections : List SectionRecord) (n at k : ℕ) (bytes : List (Option ℕ)) → bytes ≡ loaded_from sections n at → k < n → get_or bytes k None ≡ loaded sections ((at + k) % 2 ^ 64)
byte_loaded sections n at k bytes are lt =
    ap (λ (bs : List (Option ℕ)). get_or bs k None) are ∙ get_or-map-range_with_len (λ i. loaded sections ((at + i) % 2 ^ 64)) 0 n k k None lt (omega arith)

-- the bytes that are loaded once a section more was asked
pub loaded_over : (sections : List SectionRecord) (s : SectionRecord) (n at : ℕ) (bytes : List (Option ℕ)) → bytes ≡ loaded_from sections n at
    → map (λ k. option_or (get_or bytes k None) (byte_over s ((at + k) % 2 ^ 64))) (range_with_len 0 n) ≡ loaded_from (sections ++ s ∷ []) n at
loaded_over sections s n at bytes are =
    same_values (λ k. option_or (get_or bytes k None) (byte_over s ((at + k) % 2 ^ 64))) (λ k. loaded (sections ++ s ∷ []) ((at + k) % 2 ^ 64)) n None each
  where
    each : (k : ℕ) → k < n → option_or (get_or bytes k None) (byte_over s ((at + k) % 2 ^ 64)) ≡ loaded (sections ++ s ∷ []) ((at + k) % 2 ^ 64)
    each k lt =
        ap (λ b. option_or b (byte_over s ((at + k) % 2 ^ 64))) (byte_loaded sections n at k bytes are lt) ∙ sym (loaded_more sections s ((at + k) % 2 ^ 64))

-- they stay where it has none that is missing
pub loaded_aside : (sections : List SectionRecord) (s : SectionRecord) (n at : ℕ) (bytes : List (Option ℕ)) → bytes ≡ loaded_from sections n at
    → ((k : ℕ) → k < n → get_or bytes k None ≡ None → covers s ((at + k) % 2 ^ 64) ≡ false)
    → loaded_from sections n at ≡ loaded_from (sections ++ s ∷ []) n at
loaded_aside sections s n at bytes are aside =
    same_values (λ k. loaded sections ((at + k) % 2 ^ 64)) (λ k. loaded (sections ++ s ∷ []) ((at + k) % 2 ^ 64)) n None
    (λ k lt. sym (or_nothing s ((at + k) % 2 ^ 64) (loaded sections ((at + k) % 2 ^ 64)) (λ none. aside k lt (byte_loaded sections n at k bytes are lt ∙ none))) ∙ sym (loaded_more sections s ((at + k) % 2 ^ 64)))
