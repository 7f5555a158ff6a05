-- A text with other bytes put into it: what stands before, at and after them.
use Rattle.std.proofs.Common.{◌≡◌, ◌∙◌, ◌≤◌, ◌⊎◌, inl, inr, ℕ, ◌+◌, List, ◌++◌, length, take, drop, length-drop, sym, ap, arith}
use Rattle.std.proofs.Math.Seq.{drop-append_seam, take-append_seam}
use Rattle.std.proofs.lemmas.List.{append_assoc, drop-append-le, length-append, length-take-le, take-append-drop, take-append-le}
use Rattle.std.proofs.lemmas.Slice.{drop-append-drop}
use Rattle.module_image.specs.Sites.{put_at}

-- bytes of a prefix
prefix_piece : (xs ys : List ℕ) (n len : ℕ) → n + len ≤ length xs → take len (drop n (xs ++ ys)) ≡ take len (drop n xs)
prefix_piece xs ys n len inside =
    let rest = length-drop n xs in
    ap (λ (t : List ℕ). take len t) (drop-append-le n xs ys (omega (arith, inside)))
    ∙ take-append-le len (drop n xs) ys (omega (arith, inside, rest))

-- bytes before those that are put
before_put : (text code : List ℕ) (o n len : ℕ) → o ≤ length text → n + len ≤ o → take len (drop n (put_at text o code)) ≡ take len (drop n text)
before_put text code o n len inside before =
    let size : length (take o text) ≡ o = length-take-le o text inside in
    prefix_piece (take o text) (code ++ drop (o + length code) text) n len (omega (arith, before, size))
    ∙ sym (prefix_piece (take o text) (drop o text) n len (omega (arith, before, size)))
    ∙ ap (λ (t : List ℕ). take len (drop n t)) (take-append-drop o text)

-- bytes after them
after_put : (text code : List ℕ) (o n len : ℕ) → o ≤ length text → o + length code ≤ n → take len (drop n (put_at text o code)) ≡ take len (drop n text)
after_put text code o n len inside after =
    let size : length (take o text) ≡ o = length-take-le o text inside in
    let sum : length (take o text ++ code) ≡ length (take o text) + length code = length-append (take o text) code in
    let both : length (take o text ++ code) ≡ o + length code = omega (arith, size, sum) in
    ap (λ (t : List ℕ). take len (drop n t)) (sym (append_assoc (take o text) code (drop (o + length code) text)))
    ∙ ap (λ (t : List ℕ). take len t) (drop-append-drop (o + length code) text (take o text ++ code) n after both)

-- bytes that have none in common with those that are put
pub beside_put : (text code : List ℕ) (o n len : ℕ) → o ≤ length text → (n + len ≤ o) ⊎ (o + length code ≤ n) → take len (drop n (put_at text o code)) ≡ take len (drop n text)
beside_put text code o n len inside (inl before) = before_put text code o n len inside before
beside_put text code o n len inside (inr after) = after_put text code o n len inside after

-- the bytes that are put
pub at_put : (text code : List ℕ) (o len : ℕ) → o ≤ length text → length code ≡ len → take len (drop o (put_at text o code)) ≡ code
at_put text code o len inside size =
    let place : length (take o text) ≡ o = length-take-le o text inside in
    ap (λ (i : ℕ). take len (drop i (put_at text o code))) (sym place)
    ∙ ap (λ (t : List ℕ). take len t) (drop-append_seam (take o text) (code ++ drop (o + length code) text))
    ∙ ap (λ (i : ℕ). take i (code ++ drop (o + length code) text)) (sym size)
    ∙ take-append_seam code (drop (o + length code) text)
