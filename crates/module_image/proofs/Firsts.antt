-- What is known of the items before one that is tried, and of all of them.
use Rattle.std.proofs.Common.{◌≡◌, ◌<◌, ◌≤◌, ◌+◌, ◌↔◌, ℕ, zero, suc, Bool, true, false, IsTrue, List, length, get_or, Some, sym, subst, arith, inl, inr}
use Rattle.std.specs.List.{slice_get}
use Rattle.std.proofs.lemmas.Bool.{cases_lt}
use Rattle.std.proofs.lemmas.Option.{slice_get-get_or, slice_get_within, get_or_from_slice_get}
use Rattle.module_image.specs.First.{NoneBelow, HasNone, IsFirst}

-- the test at an item says that it hasn't the property
pub below_tested : {A : Type 0} (P : A → Type 0) (xs : List A) (n : ℕ) (d : A) (r : Bool) → NoneBelow P xs n → (IsTrue r ↔ P (get_or xs n d)) → r ≡ false → NoneBelow P xs (n + 1)
below_tested P xs n d r below test failed k y lt get has = elim (cases_lt k n) [
  | inl before ↦ below k y before get has
  | inr past ↦
      (
      let here : k ≡ n = omega (arith, lt, past) in
      let there : get_or xs n d ≡ y = get_or_from_slice_get xs n y d (subst (λ (i : ℕ). slice_get xs i ≡ Some y) here get) in
      let found : r ≡ true = test.1 (subst P (sym there) has) in
      absurd cc
      )
]

-- the test at an item says that it is the first that has it
pub first_tested : {A : Type 0} (P : A → Type 0) (xs : List A) (n : ℕ) (d : A) (r : Bool) → n < length xs → NoneBelow P xs n → (IsTrue r ↔ P (get_or xs n d)) → r ≡ true → IsFirst P xs (get_or xs n d)
first_tested P xs n d r inside below test passed = record {
  place = n;
  here = slice_get-get_or xs n d inside;
  has = test.0 passed;
  before = below;
}

-- all items were tried
pub none_at_end : {A : Type 0} (P : A → Type 0) (xs : List A) (n : ℕ) → NoneBelow P xs n → length xs ≤ n → HasNone P xs
none_at_end P xs n below past k y get has = below k y (omega (arith, past, slice_get_within xs k y get)) get has

-- where none has it none is the first
pub none_first : {A : Type 0} (P : A → Type 0) (xs : List A) (x : A) → HasNone P xs → IsFirst P xs x → ⊥
none_first P xs x none first = none first.place x first.here first.has

-- where none is the first none has it
pub has_none : {A : Type 0} (P : A → Type 0) (xs : List A) → ((x : A) → IsFirst P xs x → ⊥) → HasNone P xs
has_none {A = A} P xs no_first k y get has = below (k + 1) k y (omega arith) get has
  where
    below : (n : ℕ) → NoneBelow P xs n
    below zero k y lt get has = absurd (omega (arith, lt))
    below (suc n) k y lt get has = elim (cases_lt k n) [
      | inl before ↦ below n k y before get has
      | inr past ↦
          (let here : n ≡ k = omega (arith, lt, past) in no_first y (record { place = k; here = get; has = has; before = subst (λ (i : ℕ). NoneBelow P xs i) here (below n) }))
    ]
