-- A binary search by address in a list whose addresses ascend.
use Rattle.std.proofs.Common.{◌≡◌, ◌≢◌, ◌<◌, ◌≤◌, ℕ, Bool, true, false, nat_lt, List, length, get_or, Ok, Err, All, AllPairs, Less, Equal, Greater, refl, ap, sym, arith, le_of_eq, tests}
use Rattle.std.specs.List.Sorted.{IsBinarySearchResult}
use Rattle.std.specs.Ordering.{nat_cmp, ordering_index}
use Rattle.std.proofs.lemmas.Bool.{ltb-false, ltb-true}
use Rattle.std.proofs.lemmas.Cmp.{ranked}

-- a comparison with a number rises
rises : (x a b : ℕ) → a ≤ b → ordering_index (nat_cmp a x) ≤ ordering_index (nat_cmp b x)
rises x a b le = grind (arith, tests)

-- the addresses don't fall
keys_rise : {A : Type 0} (key : A → ℕ) (xs : List A) (i j : ℕ) (d : A) → AllPairs (λ (p q : A). key p < key q) xs → i ≤ j → j < length xs → (before : Bool) → nat_lt i j ≡ before → key (get_or xs i d) ≤ key (get_or xs j d)
keys_rise key xs i j d up le below true is =
    let less : key (get_or xs i d) < key (get_or xs j d) = up i j d (ltb-true i j is) below in
    omega arith
keys_rise key xs i j d up le below false is =
    let end : j ≤ i = ltb-false i j is in
    let same : i ≡ j = omega arith in
    le_of_eq (ap (λ k. key (get_or xs k d)) same)

-- what stands before the place that a search answers has a lower address, and what stands from there on a higher one
apart_from : (at x place k : ℕ) (before : Bool) → nat_lt k place ≡ before → (k < place → nat_cmp x at ≡ Less) → (place ≤ k → nat_cmp x at ≡ Greater) → x ≢ at
apart_from at x place k true is less greater same =
    let below : x < at = ranked x at Less (sym (less (ltb-true k place is))) in
    omega arith
apart_from at x place k false is less greater same =
    let above : at < x = ranked x at Greater (sym (greater (ltb-false k place is))) in
    omega arith

-- what a search finds has the address
pub hit : {A : Type 0} (key : A → ℕ) (xs : List A) (at place : ℕ) (d : A) → IsBinarySearchResult (λ (p : A). nat_cmp (key p) at) xs (Ok place) → key (get_or xs place d) ≡ at
hit key xs at place d searched = ranked (key (get_or xs place d)) at Equal (sym (searched d))

-- where it finds nothing, nothing has it
pub missed : {A : Type 0} (key : A → ℕ) (xs : List A) (at place : ℕ) → AllPairs (λ (p q : A). key p < key q) xs → IsBinarySearchResult (λ (p : A). nat_cmp (key p) at) xs (Err place) → All (λ (p : A). key p ≢ at) xs
missed key xs at place up searched k d below =
    let parted = searched (λ i j e le within. rises at (key (get_or xs i e)) (key (get_or xs j e)) (keys_rise key xs i j e up le within (nat_lt i j) refl)) in
    apart_from at (key (get_or xs k d)) place k (nat_lt k place) refl (λ lt. parted.0 k d (omega arith) lt) (λ le. parted.1 k d le below)
