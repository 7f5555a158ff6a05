-- What holds of each item of a list.
use Rattle.std.proofs.Common.{◌≡◌, ◌++◌, ℕ, zero, suc, List, [], ◌∷◌, map, slice_get, Some, subst}
use Rattle.std.specs.List.{AllByRecursion as Each}
use Rattle.std.proofs.lemmas.Option.{none-some, same_Some}
use Rattle.module_image.specs.First.{HasNone}

-- it holds of the item at a place
pub each-at : {A : Type 0} (P : A → Type 0) (xs : List A) (i : ℕ) (x : A) → Each P xs → slice_get xs i ≡ Some x → P x
each-at P [] i x all here = absurd (none-some x here)
each-at P (y ∷ ys) zero x all here = subst P (same_Some y x here) all.0
each-at P (y ∷ ys) (suc i) x all here = each-at P ys i x all.1 here

-- of two lists
pub each-append : {A : Type 0} (P : A → Type 0) (xs ys : List A) → Each P xs → Each P ys → Each P (xs ++ ys)
each-append P [] ys first second = second
each-append P (x ∷ xs) ys first second = (first.0, each-append P xs ys first.1 second)

-- of what a function makes
pub each-map : {A B : Type 0} (P : B → Type 0) (f : A → B) (xs : List A) → Each (λ (x : A). P (f x)) xs → Each P (map f xs)
each-map P f [] all = tt
each-map P f (x ∷ xs) all = (all.0, each-map P f xs all.1)

-- what follows from it
pub each-more : {A : Type 0} (P Q : A → Type 0) (xs : List A) → ((x : A) → P x → Q x) → Each P xs → Each Q xs
each-more P Q [] more all = tt
each-more P Q (x ∷ xs) more all = (more x all.0, each-more P Q xs more all.1)

-- where it fails of each item none has it
pub none-each : {A : Type 0} (P : A → Type 0) (xs : List A) → Each (λ (x : A). P x → ⊥) xs → HasNone P xs
none-each P xs all i x here has = each-at (λ (y : _). P y → ⊥) xs i x all here has
