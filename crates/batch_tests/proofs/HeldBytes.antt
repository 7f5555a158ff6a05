-- What a text of some bytes holds.
use Rattle.std.proofs.Common.{◌≡◌, ◌+◌, ◌-◌, ◌<◌, ℕ, zero, suc, false, nat_lt, if◌then◌else◌, List, [], ◌∷◌, length, Option, None, IsSome, slice_get, refl, arith}
use Rattle.std.proofs.lemmas.Bool.{le-ltb}

-- a place of a list has an element
slice_get-some : (xs : List ℕ) (i : ℕ) → i < length xs → IsSome (slice_get xs i)
slice_get-some [] i lt = absurd (omega arith)
slice_get-some (x ∷ xs) zero lt = refl
slice_get-some (x ∷ xs) (suc i) lt = slice_get-some xs i (omega arith)

-- the bytes of a text from an address on
abbrev pub held_from : ℕ → List ℕ → ℕ → Option ℕ
held_from from bytes at = if nat_lt at from then None else slice_get bytes (at - from)

-- a text holds a byte at each of its places
pub held_from-some : (from : ℕ) (bytes : List ℕ) (k j : ℕ) → k + j < length bytes → IsSome (held_from from bytes (from + k + j))
held_from-some from bytes k j lt =
    let above : nat_lt (from + k + j) from ≡ false = le-ltb (from + k + j) from (omega arith) in
    let place : (from + k + j) - from ≡ k + j = omega arith in
    rw (above, place) (slice_get-some bytes (k + j) lt)
