-- Names in a string table.
use Rattle.std.proofs.Common.{◌≡◌, ◌<◌, ◌≤◌, ◌+◌, ◌-◌, ◌↔◌, ◌∙◌, ◌&&◌, ℕ, zero, suc, Bool, true, false, nat_eq, List, [], ◌∷◌, length, get_or, take, refl, sym, ap, arith, one-add, inl, inr}
use Rattle.std.proofs.lemmas.Bool.{cases_lt}
use Rattle.std.proofs.lemmas.List.{get_or-drop, length-drop}
use Rattle.std.specs.List.{before_first}
use Rattle.std.specs.Str.{bytes_eq}
use Rattle.elf_module.specs.Refusals.{HasName}

-- a name stands in a table exactly where it begins before the end of the last zero
pub has_name-before_end : (table : List ℕ) (end : ℕ) → 0 < end → end ≤ length table
    → ((k : ℕ) → end ≤ k → k < length table → get_or table k 0 ≡ 0 → ⊥) → get_or table (end - 1) 0 ≡ 0
    → (at : ℕ) → HasName table at ↔ (at < end)
has_name-before_end table end some within none last at = (before, has)
  where
    before : HasName table at → at < end
    before h = elim (cases_lt at end) [
      | inl lt ↦ lt
      | inr le ↦ absurd (none (at + h.0) (omega arith) (omega (arith, h.1, length-drop at table)) (sym (get_or-drop at table h.0 0) ∙ h.2))
    ]

    has : at < end → HasName table at
    has lt =
        let place : at + (end - 1 - at) ≡ end - 1 = omega arith in
        (end - 1 - at, omega (arith, length-drop at table), get_or-drop at table (end - 1 - at) 0 ∙ ap (λ k. get_or table k 0) place ∙ last)

-- what stands before the first byte that passes, in the prefix of a text
before_first-take : (p : ℕ → Bool) (n : ℕ) (bytes : List ℕ) → before_first p (take n bytes) ≡ take n (before_first p bytes)
before_first-take p zero bytes = refl
before_first-take p (suc n) [] = refl
before_first-take p (suc n) (byte ∷ bytes) = step (p byte) refl (before_first-take p n bytes)
  where
    step : (last : Bool) → p byte ≡ last → before_first p (take n bytes) ≡ take n (before_first p bytes)
        → before_first p (take (suc n) (byte ∷ bytes)) ≡ take (suc n) (before_first p (byte ∷ bytes))
    step true e rest = rw e refl
    step false e rest = rw e (simp one-add (ap (λ l. byte ∷ l) rest))

-- a text is compared with a shorter one by its prefix
bytes_eq-take : (n : ℕ) (bytes name : List ℕ) → length name < n → bytes_eq (take n bytes) name ≡ bytes_eq bytes name
bytes_eq-take zero bytes name lt = absurd (omega arith)
bytes_eq-take (suc n) [] name lt = refl
bytes_eq-take (suc n) (byte ∷ bytes) [] lt = refl
bytes_eq-take (suc n) (byte ∷ bytes) (first ∷ name) lt = ap (λ r. nat_eq byte first && r) (bytes_eq-take n bytes name (omega arith))

-- a name is compared by a prefix of the table that is longer than it
pub same_name-take : (p : ℕ → Bool) (n : ℕ) (bytes name : List ℕ) → length name < n
    → bytes_eq (before_first p (take n bytes)) name ≡ bytes_eq (before_first p bytes) name
same_name-take p n bytes name lt = rw (before_first-take p n bytes) (bytes_eq-take n (before_first p bytes) name lt)
