-- A look-up among the values of a function, by index and by a test.
use Rattle.std.proofs.Common.{◌≡◌, ◌<◌, ◌≤◌, ◌+◌, ◌∙◌, ℕ, zero, suc, Bool, true, false, length, map, Some, None, option_map, refl, sym, ap, arith, inl, inr}
use Rattle.std.specs.List.{find, range_with_len, slice_get}
use Rattle.std.proofs.lemmas.Bool.{cases_lt}
use Rattle.std.proofs.lemmas.Option.{slice_get-get_or, slice_get_past, same_Some, none-some}
use Rattle.std.proofs.lemmas.List.FromFn.{length-map-range_with_len, get_or-map-range_with_len}

-- the first value that passes is found
pub find_first : {X : Type 0} (p : X → Bool) (f : ℕ → X) (a n i : ℕ) → a ≤ i → i < a + n
    → ((k : ℕ) → k < i → p (f k) ≡ false) → p (f i) ≡ true → find p (map f (range_with_len a n)) ≡ Some (f i)
find_first p f a zero i from below fails passes = absurd (omega arith)
find_first p f a (suc n) i from below fails passes = elim (cases_lt a i) [
  | inl before ↦ rw (fails a before) (find_first p f (a + 1) n i (omega arith) (omega arith) fails passes)
  | inr past ↦ (let here : a ≡ i = omega arith in rw (here, passes) refl)
]

-- nothing is found where no value passes
pub find_none : {X : Type 0} (p : X → Bool) (f : ℕ → X) (a n : ℕ)
    → ((k : ℕ) → k < a + n → p (f k) ≡ false) → find p (map f (range_with_len a n)) ≡ None
find_none p f a zero fails = refl
find_none p f a (suc n) fails = rw (fails a (omega arith)) (find_none p f (a + 1) n (λ k lt. fails k (omega arith)))

-- the value at an index
pub get_within : {X : Type 0} (f : ℕ → X) (n i : ℕ) → i < n → slice_get (map f (range_with_len 0 n)) i ≡ Some (f i)
get_within f n i lt =
    let long : i < length (map f (range_with_len 0 n)) = omega (arith, length-map-range_with_len f 0 n) in
    slice_get-get_or (map f (range_with_len 0 n)) i (f i) long ∙ ap Some (get_or-map-range_with_len f 0 n i i (f i) lt (omega arith))

-- no value stands past the last index
pub get_past : {X : Type 0} (f : ℕ → X) (n i : ℕ) → n ≤ i → slice_get (map f (range_with_len 0 n)) i ≡ None
get_past f n i le = slice_get_past (map f (range_with_len 0 n)) i (omega (arith, length-map-range_with_len f 0 n))

-- what is asked of the value at an index
pub asked_within : {X Y : Type 0} (f : ℕ → X) (ask : X → Y) (n i : ℕ) (answer : Y) → i < n → answer ≡ ask (f i)
    → option_map ask (slice_get (map f (range_with_len 0 n)) i) ≡ Some answer
asked_within f ask n i answer lt is = ap (option_map ask) (get_within f n i lt) ∙ ap Some (sym is)

-- an item of the list is one of the values
pub got_value : {X : Type 0} (f : ℕ → X) (n i : ℕ) (x : X) → slice_get (map f (range_with_len 0 n)) i ≡ Some x → f i ≡ x
got_value f n i x got = elim (cases_lt i n) [
  | inl lt ↦ same_Some (f i) x (sym (get_within f n i lt) ∙ got)
  | inr le ↦ absurd (none-some x (sym (get_past f n i le) ∙ got))
]
