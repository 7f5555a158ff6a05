-- The items of a list from a place on.
use Rattle.std.proofs.Common.{◌≡◌, ◌+◌, ◌<◌, ◌≤◌, ℕ, zero, suc, List, [], ◌∷◌, length, drop, Some, ap, ◌∙◌, refl, arith}
use Rattle.std.specs.List.{slice_get}

none_there : {X : Type 0} (i : ℕ) (x : X) → slice_get {X = X} [] i ≡ Some x → ⊥
none_there zero x there = cc
none_there (suc i) x there = cc

drop_suc : {X : Type 0} (xs : List X) (i : ℕ) (x : X) → slice_get xs i ≡ Some x → drop i xs ≡ x ∷ drop (suc i) xs
drop_suc {X = X} [] i x there = absurd (none_there i x there)
drop_suc {X = X} (y ∷ ys) zero x there =
    let same : y ≡ x = cc in
    ap (λ (z : X). z ∷ ys) same
drop_suc {X = X} (y ∷ ys) (suc i) x there = drop_suc ys i x there

-- the item at a place comes first, and then those after it
pub drop_here : {X : Type 0} (xs : List X) (i : ℕ) (x : X) → slice_get xs i ≡ Some x → drop i xs ≡ x ∷ drop (i + 1) xs
drop_here {X = X} xs i x there =
    let next : suc i ≡ i + 1 = omega arith in
    drop_suc xs i x there ∙ ap (λ (n : ℕ). x ∷ drop n xs) next

-- past the end there is none
pub drop_all : {X : Type 0} (xs : List X) (i : ℕ) → length xs ≤ i → drop i xs ≡ []
drop_all {X = X} [] zero past = refl
drop_all {X = X} [] (suc i) past = refl
drop_all {X = X} (y ∷ ys) zero past = absurd (omega (arith, past))
drop_all {X = X} (y ∷ ys) (suc i) past = drop_all ys i (omega (arith, past))
