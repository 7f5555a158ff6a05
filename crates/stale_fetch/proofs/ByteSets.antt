-- Lists of bytes in which each stands once have at most 256.
use Rattle.std.proofs.Common.{◌≡◌, ◌≤◌, ◌<◌, ◌+◌, ◌==◌, if◌then◌else◌, ℕ, Bool, true, false, List, [], ◌∷◌, ◌++◌, length, sym, ap, subst, ◌∙◌, inl, inr, arith, length-append}
use Rattle.std.specs.List.{IsDistinct}
use Rattle.std.proofs.lemmas.Bool.{eqb-true, or_cases}
use Rattle.std.proofs.lemmas.Map.Steps.{length-le_from_distinct_below}
use Rattle.stale_fetch.specs.Gathered.{has, added}
use Rattle.stale_fetch.specs.ByteSet.{IsByteSet}
use Rattle.stale_fetch.specs.Since.{added-distinct, has-added, has-flips}

-- what is in a list with a value more is the value or was there
below_more : (xs : List ℕ) (byte : ℕ) → byte < 256 → ((value : ℕ) → has xs value ≡ true → value < 256) → (value : ℕ) → has (byte ∷ xs) value ≡ true → value < 256
below_more xs byte fits below value here =
    elim (or_cases (byte == value) (has xs value) here) [
      | inl e ↦ subst (λ v. v < 256) (eqb-true byte value e) fits
      | inr e ↦ below value e
    ]

pub added_set : (xs : List ℕ) (byte : ℕ) → byte < 256 → IsByteSet xs → IsByteSet (added xs byte)
added_set xs byte fits set = record {
  distinct = added-distinct xs byte set.distinct;
  below = λ value here. below_more xs byte fits set.below value (sym (has-added xs byte value) ∙ here);
}

no_set : IsByteSet []
unfolding IsDistinct
no_set = record { distinct = tt; below = λ value here. absurd (cc) }

pub one_set : (byte : ℕ) → byte < 256 → IsByteSet (byte ∷ [])
one_set byte fits = added_set [] byte fits no_set

pub set_length : (xs : List ℕ) → IsByteSet xs → length xs ≤ 256
set_length xs set =
    length-le_from_distinct_below xs 256 set.distinct (λ q here. set.below q (sym (has-flips xs q) ∙ here))

-- where a byte isn't in it there is room for one more
pub set_room : (xs : List ℕ) (byte : ℕ) → byte < 256 → IsByteSet xs → has xs byte ≡ false → length xs < 256
set_room xs byte fits set not =
    let most = set_length (added xs byte) (added_set xs byte fits set) in
    let e : length (added xs byte) ≡ length xs + 1 = ap (λ b. length (if b then xs else xs ++ byte ∷ [])) not ∙ length-append xs (byte ∷ []) in
    omega arith

-- what a search has not found isn't there
pub isnt_found : (xs now : List ℕ) (byte : ℕ) (found : Bool) → now ≡ xs → found ≡ has now byte → found ≡ false → has xs byte ≡ false
isnt_found xs now byte found e h f = ap (λ ys. has ys byte) (sym e) ∙ sym h ∙ f

-- a list with a byte more that isn't there
pub push_set : (xs more : List ℕ) (byte : ℕ) → byte < 256 → IsByteSet xs → has xs byte ≡ false → more ≡ xs ++ byte ∷ [] → IsByteSet more
push_set xs more byte fits set not e =
    subst IsByteSet (ap (λ b. if b then xs else xs ++ byte ∷ []) not ∙ sym e) (added_set xs byte fits set)
