-- The lines of the items of a list are printed item by item.
use Rattle.std.proofs.Common.{◌≡◌, ◌+◌, ℕ, zero, suc, List, [], ◌∷◌, ◌++◌, take, drop, Result, IsErr, Ok, Err, Some, sym, ap, ◌∙◌, subst, arith, append-nil}
use Rattle.std.specs.List.{flat_map, slice_get}
use Rattle.std.proofs.lemmas.Grind.{flat_map-append}
use Rattle.poke_base.specs.declared.host.WriteFail.{WriteFail}
use Rattle.poke_base.specs.Host.{Outside, Prints}
use Rattle.poke_base.proofs.Outsides.{Prints-more, Prints-part}

-- an empty list has no item
none_there : {X : Type 0} (i : ℕ) (x : X) → slice_get {X = X} [] i ≡ Some x → ⊥
none_there zero x there = cc
none_there (suc i) x there = cc

-- the first items, and one more
take_suc : {X : Type 0} (xs : List X) (i : ℕ) (x : X) → slice_get xs i ≡ Some x → take (suc i) xs ≡ take i xs ++ (x ∷ [])
take_suc {X = X} [] i x there = absurd (none_there i x there)
take_suc {X = X} (y ∷ ys) zero x there =
    let same : y ≡ x = cc in
    ap (λ (z : X). z ∷ []) same
take_suc {X = X} (y ∷ ys) (suc i) x there = ap (λ (zs : List X). y ∷ zs) (take_suc ys i x there)

pub take_more : {X : Type 0} (xs : List X) (i : ℕ) (x : X) → slice_get xs i ≡ Some x → take (i + 1) xs ≡ take i xs ++ (x ∷ [])
take_more {X = X} xs i x there =
    let next : i + 1 ≡ suc i = omega arith in
    ap (λ (n : ℕ). take n xs) next ∙ take_suc xs i x there

-- with those after it they are the list
whole_suc : {X : Type 0} (xs : List X) (i : ℕ) (x : X) → slice_get xs i ≡ Some x → (take i xs ++ (x ∷ [])) ++ drop (suc i) xs ≡ xs
whole_suc {X = X} [] i x there = absurd (none_there i x there)
whole_suc {X = X} (y ∷ ys) zero x there =
    let same : x ≡ y = cc in
    ap (λ (z : X). z ∷ ys) same
whole_suc {X = X} (y ∷ ys) (suc i) x there = ap (λ (zs : List X). y ∷ zs) (whole_suc ys i x there)

pub whole : {X : Type 0} (xs : List X) (i : ℕ) (x : X) → slice_get xs i ≡ Some x → (take i xs ++ (x ∷ [])) ++ drop (i + 1) xs ≡ xs
whole {X = X} xs i x there =
    let next : i + 1 ≡ suc i = omega arith in
    ap (λ (n : ℕ). (take i xs ++ (x ∷ [])) ++ drop n xs) next ∙ whole_suc xs i x there

-- the lines of the first items, and of one more
lines_more : {X : Type 0} (line : X → List ℕ) (xs : List X) (i : ℕ) (x : X) → slice_get xs i ≡ Some x → flat_map line (take i xs) ++ line x ≡ flat_map line (take (i + 1) xs)
lines_more {X = X} line xs i x there =
    sym (
    ap (λ (ys : List X). flat_map line ys) (take_more xs i x there) ∙ flat_map-append line (take i xs) (x ∷ [])
    ∙ ap (λ (ys : List ℕ). flat_map line (take i xs) ++ ys) (append-nil (line x))
    )

-- and of those after it
lines_whole : {X : Type 0} (line : X → List ℕ) (xs : List X) (i : ℕ) (x : X) → slice_get xs i ≡ Some x → (flat_map line (take i xs) ++ line x) ++ flat_map line (drop (i + 1) xs) ≡ flat_map line xs
lines_whole {X = X} line xs i x there =
    sym (
    ap (λ (ys : List X). flat_map line ys) (sym (whole xs i x there)) ∙ flat_map-append line (take i xs ++ (x ∷ [])) (drop (i + 1) xs)
    ∙ ap (λ (ys : List ℕ). ys ++ flat_map line (drop (i + 1) xs)) (ap (λ (ys : List X). flat_map line ys) (sym (take_more xs i x there)) ∙ sym (lines_more line xs i x there))
    )

-- one line more was printed
pub item_printed : {X : Type 0} (line : X → List ℕ) (xs : List X) (i : ℕ) (x : X) (text : List ℕ) (old middle new : Outside) → slice_get xs i ≡ Some x → Prints {T = Unit {0}} {E = WriteFail} old middle (flat_map line (take i xs)) (Ok tt) → text ≡ line x → Prints {T = Unit {0}} {E = WriteFail} middle new text (Ok tt) → Prints {T = Unit {0}} {E = WriteFail} old new (flat_map line (take (i + 1) xs)) (Ok tt)
item_printed {X = X} line xs i x text old middle new there before is prints =
    subst (λ (ys : List ℕ). Prints {T = Unit {0}} {E = WriteFail} old new ys (Ok tt)) (ap (λ (ys : List ℕ). flat_map line (take i xs) ++ ys) is ∙ lines_more line xs i x there)
    (Prints-more old middle new (flat_map line (take i xs)) text tt (Ok tt) before prints)

-- a line failed
pub item_failed : {X : Type 0} (line : X → List ℕ) (xs : List X) (i : ℕ) (x : X) (text : List ℕ) (why : WriteFail) (old middle new : Outside) → slice_get xs i ≡ Some x → Prints {T = Unit {0}} {E = WriteFail} old middle (flat_map line (take i xs)) (Ok tt) → text ≡ line x → Prints {T = Unit {0}} {E = WriteFail} middle new text (Err why) → Prints {T = Unit {0}} {E = WriteFail} old new (flat_map line xs) (Err why)
item_failed {X = X} line xs i x text why old middle new there before is prints =
    subst (λ (ys : List ℕ). Prints {T = Unit {0}} {E = WriteFail} old new ys (Err why))
    (ap (λ (ys : List ℕ). (flat_map line (take i xs) ++ ys) ++ flat_map line (drop (i + 1) xs)) is ∙ lines_whole line xs i x there)
    (Prints-part old middle new (flat_map line (take i xs)) text (flat_map line (drop (i + 1) xs)) tt why before prints)

-- a failed print is the same whatever its error, which has one value
pub as_failed : (old new : Outside) (text : List ℕ) (why : WriteFail) (result : Result (Unit {0}) WriteFail) → IsErr result → Prints {T = Unit {0}} {E = WriteFail} old new text (Err why) → Prints {T = Unit {0}} {E = WriteFail} old new text result
as_failed old new text why (Ok done) failed prints = absurd (cc)
as_failed old new text why (Err fail) failed prints = prints
