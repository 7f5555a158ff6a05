-- Ascending lists of addresses: what a search in them finds, and one more address.
use Rattle.std.proofs.Common.{◌≡◌, ◌<◌, ◌≤◌, ◌+◌, ◌∙◌, ℕ, zero, suc, List, [], ◌∷◌, length, get_or, refl, sym, ap, subst, arith, add-one, inl, inr}
use Rattle.std.specs.List.{insert}
use Rattle.std.proofs.lemmas.Bool.{cases_order, lt-ltb, le-ltb, eq-eqb, ne_eqb}
use Rattle.module_names.specs.Keys.{with_key, place_in}
use Rattle.module_names.specs.KeyList.{IsRising}

-- each address is above the one before it, the first above `low`
abbrev RisesFrom : ℕ → List ℕ → Type 0
RisesFrom low [] = Unit {0}
RisesFrom low (x ∷ xs) = (low < x) × RisesFrom x xs

rises_from : (low : ℕ) (xs : List ℕ) → IsRising (low ∷ xs) → RisesFrom low xs
rises_from low [] rising = tt
rises_from low (x ∷ xs) rising = (rising 0 (omega arith), rises_from x xs (λ k lt. next k (rising (k + 1) (omega arith))))
  where
    next : (k : ℕ) → get_or (low ∷ x ∷ xs) (k + 1) 0 < get_or (low ∷ x ∷ xs) (k + 1 + 1) 0 → get_or (x ∷ xs) k 0 < get_or (x ∷ xs) (k + 1) 0
    next k lt = rw (add-one k) (rw (add-one (k + 1), add-one k) at lt)

rising_from : (low : ℕ) (xs : List ℕ) → RisesFrom low xs → (k : ℕ) → k + 1 < length (low ∷ xs) → get_or (low ∷ xs) k 0 < get_or (low ∷ xs) (k + 1) 0
rising_from low [] rises k lt = absurd (omega arith)
rising_from low (x ∷ xs) rises zero lt = rises.0
rising_from low (x ∷ xs) rises (suc k) lt = rw (add-one (suc k)) (rw (add-one k) at (rising_from x xs rises.1 k (omega arith)))

rising_tail : (x : ℕ) (xs : List ℕ) → IsRising (x ∷ xs) → IsRising xs
rising_tail x [] rising = λ k lt. absurd (omega arith)
rising_tail x (y ∷ ys) rising = rising_from y ys (rises_from x (y ∷ ys) rising).1

-- what rises from an address is above it
rises_above : (low : ℕ) (xs : List ℕ) → RisesFrom low xs → (i : ℕ) → i < length xs → low < get_or xs i 0
rises_above low [] rises i lt = absurd (omega arith)
rises_above low (x ∷ xs) rises zero lt = rises.0
rises_above low (x ∷ xs) rises (suc i) lt = omega (arith, rises.0, rises_above x xs rises.1 i (omega arith))

rising_above : (x : ℕ) (xs : List ℕ) → IsRising (x ∷ xs) → (i : ℕ) → i < length xs → x < get_or xs i 0
rising_above x xs rising = rises_above x xs (rises_from x xs rising)

-- no later address is lower
pub rising_to : (xs : List ℕ) → IsRising xs → (i j : ℕ) → i ≤ j → j < length xs → get_or xs i 0 ≤ get_or xs j 0
rising_to [] rising i j le lt = absurd (omega arith)
rising_to (x ∷ xs) rising zero zero le lt = omega arith
rising_to (x ∷ xs) rising zero (suc j) le lt = omega (arith, rising_above x xs rising j (omega arith))
rising_to (x ∷ xs) rising (suc i) zero le lt = absurd (omega arith)
rising_to (x ∷ xs) rising (suc i) (suc j) le lt = rising_to xs (rising_tail x xs rising) i j (omega arith) (omega arith)

-- where one more address goes
with_key-before : (key x : ℕ) (xs : List ℕ) → key < x → with_key key (x ∷ xs) ≡ key ∷ x ∷ xs
with_key-before key x xs lt = rw (ne_eqb key x (omega arith), lt-ltb key x lt) refl

with_key-same : (key x : ℕ) (xs : List ℕ) → key ≡ x → with_key key (x ∷ xs) ≡ x ∷ xs
with_key-same key x xs e = rw (eq-eqb key x e) refl

with_key-after : (key x : ℕ) (xs : List ℕ) → x < key → with_key key (x ∷ xs) ≡ x ∷ with_key key xs
with_key-after key x xs lt = rw (ne_eqb key x (omega arith), le-ltb key x (omega arith)) refl

-- one that is there stays alone
pub with_key-there : (xs : List ℕ) (key i : ℕ) → IsRising xs → i < length xs → get_or xs i 0 ≡ key → xs ≡ with_key key xs
with_key-there [] key i rising lt e = absurd (omega arith)
with_key-there (x ∷ xs) key zero rising lt e = sym (with_key-same key x xs (sym e))
with_key-there (x ∷ xs) key (suc i) rising lt e =
    let after : x < key = omega (arith, rising_above x xs rising i (omega arith), e) in
    ap (λ ys. x ∷ ys) (with_key-there xs key i (rising_tail x xs rising) (omega arith) e) ∙ sym (with_key-after key x xs after)

-- another goes between the lower and the higher
pub with_key-absent : (xs : List ℕ) (key i : ℕ) → i ≤ length xs → ((k : ℕ) → k < i → get_or xs k 0 < key)
    → ((k : ℕ) → i ≤ k → k < length xs → key < get_or xs k 0) → insert xs i key ≡ with_key key xs
with_key-absent [] key zero le below above = refl
with_key-absent [] key (suc i) le below above = absurd (omega arith)
with_key-absent (x ∷ xs) key zero le below above = sym (with_key-before key x xs (above 0 (omega arith) (omega arith)))
with_key-absent (x ∷ xs) key (suc i) le below above =
    ap (λ ys. x ∷ ys)
    (with_key-absent xs key i (omega arith) (λ k lt. below (suc k) (omega arith)) (λ k from lt. above (suc k) (omega arith) (omega arith)))
    ∙ sym (with_key-after key x xs (below 0 (omega arith)))

-- one more address keeps the order
rises-with_key : (low key : ℕ) (xs : List ℕ) → low < key → RisesFrom low xs → RisesFrom low (with_key key xs)
rises-with_key low key [] lt rises = (lt, tt)
rises-with_key low key (x ∷ xs) lt rises = elim (cases_order key x) [
  | inl same ↦ subst (RisesFrom low) (sym (with_key-same key x xs same)) rises
  | inr (inl before) ↦ subst (RisesFrom low) (sym (with_key-before key x xs before)) (lt, (before, rises.1))
  | inr (inr after) ↦ subst (RisesFrom low) (sym (with_key-after key x xs after)) (rises.0, rises-with_key x key xs after rises.1)
]

pub rising-with_key : (key : ℕ) (xs : List ℕ) → IsRising xs → IsRising (with_key key xs)
rising-with_key key [] rising = rising_from key [] tt
rising-with_key key (x ∷ xs) rising = elim (cases_order key x) [
  | inl same ↦ subst IsRising (sym (with_key-same key x xs same)) rising
  | inr (inl before) ↦ subst IsRising (sym (with_key-before key x xs before)) (rising_from key (x ∷ xs) (before, rises_from x xs rising))
  | inr (inr after) ↦ subst IsRising (sym (with_key-after key x xs after)) (rising_from x (with_key key xs) (rises-with_key x key xs after (rises_from x xs rising)))
]

-- and is one more at most
pub length-with_key : (key : ℕ) (xs : List ℕ) → length (with_key key xs) ≤ length xs + 1
length-with_key key [] = omega arith
length-with_key key (x ∷ xs) = elim (cases_order key x) [
  | inl same ↦ rw (with_key-same key x xs same) (omega arith)
  | inr (inl before) ↦ rw (with_key-before key x xs before) (omega arith)
  | inr (inr after) ↦ rw (with_key-after key x xs after) (omega (arith, length-with_key key xs))
]

-- the place of an address that is there, and of another
pub place-there : (xs : List ℕ) (key i : ℕ) → IsRising xs → i < length xs → get_or xs i 0 ≡ key → i ≡ place_in key xs
place-there [] key i rising lt e = absurd (omega arith)
place-there (x ∷ xs) key zero rising lt e = rw (eq-eqb x key e) refl
place-there (x ∷ xs) key (suc i) rising lt e =
    let other : x ≡ key → ⊥ = λ same. omega (arith, rising_above x xs rising i (omega arith), e, same) in
    rw (ne_eqb x key other) (omega (arith, place-there xs key i (rising_tail x xs rising) (omega arith) e))

pub place-absent : (xs : List ℕ) (key : ℕ) → ((k : ℕ) → k < length xs → get_or xs k 0 ≡ key → ⊥) → length xs ≡ place_in key xs
place-absent [] key none = refl
place-absent (x ∷ xs) key none =
    rw (ne_eqb x key (none 0 (omega arith))) (omega (arith, place-absent xs key (λ k lt. none (suc k) (omega arith))))
