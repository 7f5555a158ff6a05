-- The words of a line: none of their bytes is a space or a line feed.
use Rattle.std.proofs.Common.{◌≡◌, ℕ, zero, suc, ◌/◌, ◌%◌, ◌<◌, ◌≤◌, ◌==◌, ◌&&◌, inl, inr, Bool, true, false, not, nat_le, List, [], ◌∷◌, ◌++◌, length, slice_index, refl, ◌∙◌, ap, arith}
use Rattle.std.specs.List.{list_all}
use Rattle.std.proofs.lemmas.Bool.{and_parts, and_from, cases_lt, leb-true}
use Rattle.hex.specs.Hex.{encode_lower, encode_with, lower_digits}
use Rattle.hex.proofs.HexLemmas.{length-encode_with}
use Rattle.poke_base.specs.Number.{decimal}

-- a byte of a word is no space and no line feed
abbrev pub in_word : ℕ → Bool
in_word byte = not (byte == 32) && not (byte == 10)

abbrev pub is_word : List ℕ → Bool
is_word bytes = list_all in_word bytes

-- what stands before the first byte that isn't inside
pub word_ends : (inside : ℕ → Bool) (v w rest more : List ℕ) (m n : ℕ) → list_all inside v ≡ true → list_all inside w ≡ true → inside m ≡ false → inside n ≡ false
    → v ++ m ∷ rest ≡ w ++ n ∷ more → (v ≡ w) × (m ∷ rest ≡ n ∷ more)
word_ends inside [] [] rest more m n p q here there e = (refl, e)
word_ends inside [] (b ∷ w) rest more m n p q here there e =
    let same : m ≡ b = cc in
    let in_front : inside b ≡ true = (and_parts (inside b) (list_all inside w) q).0 in
    let other : inside m ≡ true = ap inside same ∙ in_front in
    absurd (cc)
word_ends inside (a ∷ v) [] rest more m n p q here there e =
    let same : n ≡ a = cc in
    let in_front : inside a ≡ true = (and_parts (inside a) (list_all inside v) p).0 in
    let other : inside n ≡ true = ap inside same ∙ in_front in
    absurd (cc)
word_ends inside (a ∷ v) (b ∷ w) rest more m n p q here there e =
    let same : a ≡ b = cc in
    let tails : v ++ m ∷ rest ≡ w ++ n ∷ more = cc in
    let others = word_ends inside v w rest more m n (and_parts (inside a) (list_all inside v) p).1 (and_parts (inside b) (list_all inside w) q).1 here there tails in
    ((λ i. same i ∷ others.0 i), others.1)

-- ---- numbers of processors

-- the number is a word of at most two bytes
abbrev is_short : ℕ → Bool
is_short cpu = is_word (decimal cpu) && nat_le (length (decimal cpu)) 2

abbrev all_short : ℕ → Bool
all_short zero = true
all_short (suc n) = is_short n && all_short n

all_short-at : (n cpu : ℕ) → all_short n ≡ true → cpu < n → is_short cpu ≡ true
all_short-at zero cpu h lt = absurd (omega arith)
all_short-at (suc n) cpu h lt =
    let parts = and_parts (is_short n) (all_short n) h in
    elim (cases_lt cpu n) [
      | inl below ↦ all_short-at n cpu parts.1 below
      | inr top ↦
          let e : cpu ≡ n = omega arith in
          ap is_short e ∙ parts.0
    ]

short : (cpu : ℕ) → cpu ≤ 15 → is_short cpu ≡ true
short cpu few = all_short-at 16 cpu refl (omega arith)

pub is_word-decimal : (cpu : ℕ) → cpu ≤ 15 → is_word (decimal cpu) ≡ true
is_word-decimal cpu few = (and_parts (is_word (decimal cpu)) (nat_le (length (decimal cpu)) 2) (short cpu few)).0

pub length-decimal_cpu : (cpu : ℕ) → cpu ≤ 15 → length (decimal cpu) ≤ 2
length-decimal_cpu cpu few =
    leb-true (length (decimal cpu)) 2 (and_parts (is_word (decimal cpu)) (nat_le (length (decimal cpu)) 2) (short cpu few)).1

-- ---- bytes

-- what is found in a word is in it, or 0 past its end
in_word-at : (word : List ℕ) (i : ℕ) → is_word word ≡ true → in_word (slice_index word i) ≡ true
in_word-at [] i h = refl
in_word-at (b ∷ word) zero h = (and_parts (in_word b) (is_word word) h).0
in_word-at (b ∷ word) (suc i) h = in_word-at word i (and_parts (in_word b) (is_word word) h).1

pub is_word-encode_lower : (bytes : List ℕ) → is_word (encode_lower bytes) ≡ true
unfolding encode_with
is_word-encode_lower [] = refl
is_word-encode_lower (b ∷ bytes) =
    and_from _ _ (in_word-at lower_digits (b / 16) refl)
    (and_from _ _ (in_word-at lower_digits (b % 16) refl) (is_word-encode_lower bytes))

-- how long a line is, for functions to name
pub ruleset line_length = (length-decimal_cpu, length-encode_with)
