-- The first item of a list with a property.
use Rattle.std.specs.Prelude.{◌≡◌, ◌<◌, ℕ, List, slice_get, Some}

-- none of the first n items has the property
abbrev pub NoneBelow : {A : Type 0} → (A → Type 0) → List A → ℕ → Type 0
NoneBelow {A} P xs n = (k : ℕ) (y : A) → k < n → slice_get xs k ≡ Some y → P y → ⊥

-- no item has it
abbrev pub HasNone : {A : Type 0} → (A → Type 0) → List A → Type 0
HasNone {A} P xs = (k : ℕ) (y : A) → slice_get xs k ≡ Some y → P y → ⊥

-- x is the first item that has it
pub record IsFirst {A : Type 0} (P : A → Type 0) (xs : List A) (x : A) : Type 0 where
  pub place : ℕ
  pub here : slice_get xs place ≡ Some x
  pub has : P x
  pub before : NoneBelow P xs place
