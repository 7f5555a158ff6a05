-- Bytes of texts: equal pieces, bytes by address, and a byte of a piece.
use Rattle.std.proofs.Common.{◌≡◌, ◌∙◌, ◌<◌, ◌≤◌, ◌⊎◌, inl, inr, ◌+◌, ◌-◌, ℕ, zero, suc, List, [], ◌∷◌, drop, get_or, length, take, Option, slice_get, refl, sym, ap, arith, drop-cons}
use Rattle.std.specs.Prelude.{IsSome, unwrap_or}
use Rattle.std.specs.Option.{is_some}
use Rattle.std.proofs.lemmas.Bool.{le-ltb}
use Rattle.std.proofs.lemmas.Option.{none-some, same_Some, slice_get-get_or}
use Rattle.std.proofs.lemmas.Grind.{common_steps}
use Rattle.insn_forms.specs.History.{text_byte}
use Rattle.module_image.specs.Sites.{code_at, put_at}
use Rattle.module_laws.proofs.Spliced.{beside_put}
use Rattle.poke_batch.specs.Clash.{held_bytes}

-- a piece of nothing is nothing
none_left : (n len : ℕ) → take len (drop n (let none : List ℕ = [] in none)) ≡ []
none_left zero zero = refl
none_left zero (suc len) = refl
none_left (suc n) zero = refl
none_left (suc n) (suc len) = refl

-- pieces are equal where each of their bytes is
pub same_piece : (xs ys : List ℕ) (n len : ℕ) → ((j : ℕ) → n ≤ j → j < n + len → slice_get xs j ≡ slice_get ys j) → take len (drop n xs) ≡ take len (drop n ys)
same_piece xs ys n zero each = refl
same_piece [] [] n (suc len) each = refl
same_piece [] (y ∷ ys) zero (suc len) each = absurd (none-some y (each 0 (omega arith) (omega arith)))
same_piece (x ∷ xs) [] zero (suc len) each = absurd (none-some x (sym (each 0 (omega arith) (omega arith))))
same_piece (x ∷ xs) (y ∷ ys) zero (suc len) each =
    let first : x ≡ y = same_Some x y (each 0 (omega arith) (omega arith)) in
    let rest : take len xs ≡ take len ys = same_piece xs ys 0 len (λ j low high. each (suc j) (omega arith) (omega (arith, high))) in
    ap (λ (z : ℕ). z ∷ take len xs) first ∙ ap (λ (zs : List ℕ). y ∷ zs) rest
same_piece [] (y ∷ ys) (suc n) (suc len) each =
    sym (none_left n (suc len))
    ∙ same_piece [] ys n (suc len) (λ j low high. each (suc j) (omega (arith, low)) (omega (arith, high)))
same_piece (x ∷ xs) [] (suc n) (suc len) each =
    same_piece xs [] n (suc len) (λ j low high. each (suc j) (omega (arith, low)) (omega (arith, high)))
    ∙ none_left n (suc len)
same_piece (x ∷ xs) (y ∷ ys) (suc n) (suc len) each =
    same_piece xs ys n (suc len) (λ j low high. each (suc j) (omega (arith, low)) (omega (arith, high)))

-- the bytes of a text by their addresses
pub byte_there : (base : ℕ) (text : List ℕ) (at : ℕ) → base ≤ at → text_byte base text at ≡ slice_get text (at - base)
byte_there base text at low = rw (le-ltb at base low) refl

pub some_byte : (base : ℕ) (text : List ℕ) (at : ℕ) → base ≤ at → at < base + length text → IsSome (text_byte base text at)
some_byte base text at low high =
    ap is_some (byte_there base text at low ∙ slice_get-get_or text (at - base) 0 (omega (arith, low, high)))

-- what is held from an address on is the text's piece there
pub held_piece : (base : ℕ) (text : List ℕ) (at n : ℕ) → base ≤ at → at + n ≤ base + length text → held_bytes (text_byte base text) at n ≡ code_at base text at n
held_piece base text at zero low high = refl
held_piece base text at (suc n) low high =
    let inside : at - base < length text = omega (arith, low, high) in
    let next : (at + 1) - base ≡ suc (at - base) = omega (arith, low) in
    let first : unwrap_or (text_byte base text at) 0 ≡ get_or text (at - base) 0 = ap (λ (o : Option ℕ). unwrap_or o 0) (byte_there base text at low ∙ slice_get-get_or text (at - base) 0 inside) in
    ap (λ (b : ℕ). b ∷ held_bytes (text_byte base text) (at + 1) n) first
    ∙ ap (λ (bs : List ℕ). get_or text (at - base) 0 ∷ bs) (held_piece base text (at + 1) n (omega (arith, low)) (omega (arith, high)) ∙ ap (λ (i : ℕ). take n (drop i text)) next)
    ∙ ap (λ (bs : List ℕ). take (suc n) bs) (sym (drop-cons text (at - base) 0 inside))

-- a byte is the first of the piece there
peeked : (xs : List ℕ) (k : ℕ) → slice_get (take 1 (drop k xs)) 0 ≡ slice_get xs k
peeked [] zero = refl
peeked [] (suc k) = refl
peeked (x ∷ xs) zero = refl
peeked (x ∷ xs) (suc k) = peeked xs k

-- a byte that isn't one of those that are put stays
pub byte_kept : (text code : List ℕ) (o k : ℕ) → o ≤ length text → (k < o) ⊎ (o + length code ≤ k) → slice_get (put_at text o code) k ≡ slice_get text k
byte_kept text code o k inside (inl before) =
    sym (peeked (put_at text o code) k) ∙ ap (λ (bs : List ℕ). slice_get bs 0) (beside_put text code o k 1 inside (inl (omega (arith, before)))) ∙ peeked text k
byte_kept text code o k inside (inr after) =
    sym (peeked (put_at text o code) k) ∙ ap (λ (bs : List ℕ). slice_get bs 0) (beside_put text code o k 1 inside (inr after)) ∙ peeked text k

-- a text with bytes put into it is as long
pub length_put : (text code : List ℕ) (o : ℕ) → o + length code ≤ length text → length (put_at text o code) ≡ length text
length_put text code o inside = grind (arith, common_steps)
