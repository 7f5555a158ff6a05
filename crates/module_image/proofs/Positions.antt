-- The first place of a list at which a test passes, and reading and writing by place.
use Rattle.std.proofs.Common.{◌≡◌, ◌≢◌, ◌<◌, ◌≤◌, ◌+◌, ◌-◌, ◌∙◌, ◌++◌, ℕ, zero, suc, Bool, true, false, cond, List, [], ◌∷◌, length, get_or, set, take, Some, None, refl, ap, sym, subst, arith, get_or-set_same}
use Rattle.std.specs.List.{position, position_from, slice_get}
use Rattle.std.proofs.lemmas.Option.{slice_get_within, slice_get-get_or, get_or_from_slice_get}
use Rattle.std.proofs.lemmas.List.{length-set, take_more}
use Rattle.std.proofs.lemmas.Grind.{common_steps}
use Rattle.std.proofs.lemmas.Iterator.Adapters.{position_from-zero}

-- an item that passes stands at a place
pub record IsFound {X : Type 0} (p : X → Bool) (xs : List X) (place : ℕ) : Type 0 where
  pub item : X
  pub here : slice_get xs place ≡ Some item
  pub passes : p item ≡ true

-- where no place is found, no item passes
none_step : {X : Type 0} (p : X → Bool) (n : ℕ) (y : X) (ys : List X) (i : ℕ) (x : X) → ((k : ℕ) → position_from p (n + 1) ys ≡ None → slice_get ys k ≡ Some x → p x ≡ false) → (b : Bool) → p y ≡ b → cond b (Some n) (position_from p (n + 1) ys) ≡ None → slice_get (y ∷ ys) i ≡ Some x → p x ≡ false
none_step p n y ys i x rest true fails none here = cc
none_step p n y ys zero x rest false fails none here = (let same : y ≡ x = cc in ap p (sym same) ∙ fails)
none_step p n y ys (suc i) x rest false fails none here = rest i none here

none_from : {X : Type 0} (p : X → Bool) (n : ℕ) (xs : List X) (i : ℕ) (x : X) → position_from p n xs ≡ None → slice_get xs i ≡ Some x → p x ≡ false
none_from p n [] i x none here = cc
none_from p n (y ∷ ys) i x none here = none_step p n y ys i x (λ k. none_from p (n + 1) ys k x) (p y) refl none here

pub found_none : {X : Type 0} (p : X → Bool) (xs : List X) (i : ℕ) (x : X) → position p xs ≡ None → slice_get xs i ≡ Some x → p x ≡ false
found_none p xs i x none here = none_from p 0 xs i x (sym (position_from-zero p xs) ∙ none) here

-- at a place that is found an item passes
some_step : {X : Type 0} (p : X → Bool) (n : ℕ) (y : X) (ys : List X) (i : ℕ) → (position_from p (n + 1) ys ≡ Some i → (n + 1 ≤ i) × IsFound p ys (i - (n + 1))) → (b : Bool) → p y ≡ b → cond b (Some n) (position_from p (n + 1) ys) ≡ Some i → (n ≤ i) × IsFound p (y ∷ ys) (i - n)
some_step p n y ys i rest true passes some =
    let same : n ≡ i = cc in
    let here : i - n ≡ 0 = omega (arith, same) in
    (omega (arith, same), record { item = y; here = rw here refl; passes = passes })
some_step p n y ys i rest false fails some =
    let found = rest some in
    let past_first : i - n ≡ suc (i - (n + 1)) = omega (arith, found.0) in
    (omega (arith, found.0), record { item = found.1.item; here = rw past_first found.1.here; passes = found.1.passes })

some_from : {X : Type 0} (p : X → Bool) (n : ℕ) (xs : List X) (i : ℕ) → position_from p n xs ≡ Some i → (n ≤ i) × IsFound p xs (i - n)
some_from p n [] i some = cc
some_from p n (y ∷ ys) i some = some_step p n y ys i (some_from p (n + 1) ys i) (p y) refl some

pub found_some : {X : Type 0} (p : X → Bool) (xs : List X) (i : ℕ) → position p xs ≡ Some i → IsFound p xs i
found_some p xs i some =
    let found = some_from p 0 xs i (sym (position_from-zero p xs) ∙ some) in
    let same : i - 0 ≡ i = omega arith in
    subst (λ (k : ℕ). IsFound p xs k) same found.1

-- one item more, that doesn't pass
fails_from : {X : Type 0} (p : X → Bool) (n : ℕ) (xs : List X) (y : X) → p y ≡ false → position_from p n (xs ++ y ∷ []) ≡ position_from p n xs
fails_from p n [] y fails = rw fails refl
fails_from p n (x ∷ xs) y fails = ap (cond (p x) (Some n)) (fails_from p (n + 1) xs y fails)

pub found_more : {X : Type 0} (p : X → Bool) (xs : List X) (y : X) → p y ≡ false → position p (xs ++ y ∷ []) ≡ position p xs
found_more p xs y fails = position_from-zero p (xs ++ y ∷ []) ∙ fails_from p 0 xs y fails ∙ sym (position_from-zero p xs)

-- one item more, which is the first that passes
passes_step : {X : Type 0} (p : X → Bool) (n : ℕ) (x : X) (xs : List X) (y : X) → (position_from p (n + 1) xs ≡ None → position_from p (n + 1) (xs ++ y ∷ []) ≡ Some (n + 1 + length xs)) → (b : Bool) → cond b (Some n) (position_from p (n + 1) xs) ≡ None → cond b (Some n) (position_from p (n + 1) (xs ++ y ∷ [])) ≡ Some (n + length (x ∷ xs))
passes_step p n x xs y rest true none = cc
passes_step p n x xs y rest false none = (let same : n + 1 + length xs ≡ n + length (x ∷ xs) = omega arith in rest none ∙ ap Some same)

passes_from : {X : Type 0} (p : X → Bool) (n : ℕ) (xs : List X) (y : X) → p y ≡ true → position_from p n xs ≡ None → position_from p n (xs ++ y ∷ []) ≡ Some (n + length xs)
passes_from {X = X} p n [] y passes none = (let none_there : List X = [] in let same : n ≡ n + length none_there = omega arith in rw passes (ap Some same))
passes_from p n (x ∷ xs) y passes none = passes_step p n x xs y (passes_from p (n + 1) xs y passes) (p x) none

pub found_last : {X : Type 0} (p : X → Bool) (xs : List X) (y : X) → p y ≡ true → position p xs ≡ None → position p (xs ++ y ∷ []) ≡ Some (length xs)
found_last p xs y passes none =
    let same : 0 + length xs ≡ length xs = omega arith in
    position_from-zero p (xs ++ y ∷ []) ∙ passes_from p 0 xs y passes (sym (position_from-zero p xs) ∙ none) ∙ ap Some same

-- what was written is read at its place, and nothing else changed
pub slice_get-set_same : {X : Type 0} (xs : List X) (i j : ℕ) (x : X) → i < length xs → j ≡ i → slice_get (set xs i x) j ≡ Some x
slice_get-set_same xs i j x lt same =
    let inside : j < length (set xs i x) = omega (arith, same, lt, length-set xs i x) in
    slice_get-get_or (set xs i x) j x inside ∙ ap Some (ap (λ (k : ℕ). get_or (set xs i x) k x) same ∙ get_or-set_same xs i x x lt)

pub slice_get-set_other : {X : Type 0} (xs : List X) (i j : ℕ) (x : X) → j ≢ i → slice_get (set xs i x) j ≡ slice_get xs j
slice_get-set_other [] i j x other = refl
slice_get-set_other (y ∷ ys) zero zero x other = absurd (other refl)
slice_get-set_other (y ∷ ys) zero (suc j) x other = refl
slice_get-set_other (y ∷ ys) (suc i) zero x other = refl
slice_get-set_other (y ∷ ys) (suc i) (suc j) x other = slice_get-set_other ys i j x (λ same. other (ap suc same))

-- a list that is written back whole
pub written_back : {X : Type 0} (len : ℕ) (xs ys : List X) → length xs ≡ len → take len (xs ++ ys) ≡ xs
written_back len xs ys same = grind (arith, common_steps, same)

-- the first n items
pub slice_get-take : {X : Type 0} (xs : List X) (n k : ℕ) → k < n → slice_get (take n xs) k ≡ slice_get xs k
slice_get-take xs zero k lt = absurd (omega (arith, lt))
slice_get-take [] (suc n) k lt = refl
slice_get-take (x ∷ xs) (suc n) zero lt = refl
slice_get-take (x ∷ xs) (suc n) (suc k) lt = slice_get-take xs n k (omega (arith, lt))

pub take_then : {X : Type 0} (xs : List X) (n : ℕ) (x : X) → slice_get xs n ≡ Some x → take (n + 1) xs ≡ take n xs ++ x ∷ []
take_then xs n x here =
    take_more xs n x (slice_get_within xs n x here) ∙ ap (λ y. take n xs ++ y ∷ []) (get_or_from_slice_get xs n x x here)

pub length-take-within : {X : Type 0} (xs : List X) (n : ℕ) (x : X) → slice_get xs n ≡ Some x → length (take n xs) ≡ n
length-take-within xs n x here = (let lt = slice_get_within xs n x here in grind (arith, common_steps, lt))
