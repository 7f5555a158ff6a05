-- Splitting a text at a byte.
use Rattle.std.proofs.Common.{◌≡◌, ℕ, zero, suc, ◌+◌, ◌-◌, ◌<◌, ◌≤◌, ◌==◌, Bool, true, false, cond, not, ltb, List, [], ◌∷◌, ◌++◌, length, take, drop, Some, None, refl, sym, ap, ◌∙◌, arith, add-one, one-add, eqb-true, eq-eqb, length-append, min}
use Rattle.std.specs.List.{list_all, position_or_len}
use Rattle.std.proofs.lemmas.Bool.Decides.{nat_tests}
use Rattle.std.proofs.lemmas.Grind.{common_steps}
use Rattle.std.proofs.lemmas.List.Sums.{fails_before_first}
use Rattle.run_journal.specs.Parts.{IsSplit}
use Rattle.run_journal.proofs.Words.{word_ends}

-- what stands before the first byte that passes a test, that byte, and what follows it
record Found (test : ℕ → Bool) (text prefix back : List ℕ) : Type 0 where
  mark : ℕ
  passes : test mark ≡ true
  whole : text ≡ prefix ++ mark ∷ back
  before : list_all (λ byte. not (test byte)) prefix ≡ true

found : (test : ℕ → Bool) (text : List ℕ) → position_or_len test text < length text
    → Found test text (take (position_or_len test text) text) (drop (suc (position_or_len test text)) text)
found test [] h = absurd (omega arith)
found test (byte ∷ text) h = step (test byte) refl (found test text) h
  where
    step : (passes : Bool) → test byte ≡ passes
        → (position_or_len test text < length text → Found test text (take (position_or_len test text) text) (drop (suc (position_or_len test text)) text))
        → position_or_len test (byte ∷ text) < length (byte ∷ text)
        → Found test (byte ∷ text) (take (position_or_len test (byte ∷ text)) (byte ∷ text)) (drop (suc (position_or_len test (byte ∷ text))) (byte ∷ text))
    step true e rest h = rw e (record { mark = byte; passes = e; whole = refl; before = refl })
    step false e rest h =
        let inside : position_or_len test text < length text = omega (arith, rw (e, one-add) at h) in
        let more = rest inside in
        rw (e, one-add) (record { mark = more.mark; passes = more.passes; whole = ap (λ l. byte ∷ l) more.whole; before = rw e more.before })

-- what is left of a text, cut to its length
take_rest : (n : ℕ) (text : List ℕ) → take (length text - n) (drop n text) ≡ drop n text
take_rest n text = grind (arith, common_steps)

-- a place that was found
pub split_found : (mark place : ℕ) (text : List ℕ)
    → Some place ≡ cond (ltb (position_or_len (λ byte. byte == mark) text) (length text)) (Some (position_or_len (λ byte. byte == mark) text)) None
    → IsSplit mark text (take place text) (take (length text - (place + 1)) (drop (place + 1) text))
split_found mark place text e =
    let inside : position_or_len (λ byte. byte == mark) text < length text = grind (arith, nat_tests) in
    let same : place ≡ position_or_len (λ byte. byte == mark) text = grind (arith, nat_tests) in
    let parts = found (λ byte. byte == mark) text inside in
    let byte : parts.mark ≡ mark = eqb-true parts.mark mark parts.passes in
    let back : take (length text - (place + 1)) (drop (place + 1) text) ≡ drop (suc (position_or_len (λ byte. byte == mark) text)) text =
    take_rest (place + 1) text ∙ ap (λ n. drop n text) (add-one place ∙ ap suc same) in
    record {
      whole = parts.whole ∙ (λ i. take (sym same i) text ++ byte i ∷ sym back i);
      first = ap (λ n. list_all (λ byte. not (byte == mark)) (take n text)) same ∙ parts.before;
    }

-- where none was found, there is none
pub split_none : (mark : ℕ) (text : List ℕ)
    → None ≡ cond (ltb (position_or_len (λ byte. byte == mark) text) (length text)) (Some (position_or_len (λ byte. byte == mark) text)) None
    → (prefix back : List ℕ) → text ≡ prefix ++ mark ∷ back → ⊥
split_none mark text e prefix back whole =
    let past : length text ≤ position_or_len (λ byte. byte == mark) text = grind (arith, nat_tests) in
    let inside : length prefix < length text = grind (arith, common_steps) in
    let fails = fails_before_first (λ byte. byte == mark) text (length prefix) 0 (omega arith) in
    grind (arith, common_steps, nat_tests)

-- a text is split at a byte in one way
pub split_same : (mark : ℕ) (text v w rest more : List ℕ) → IsSplit mark text v rest → IsSplit mark text w more → (v ≡ w) × (rest ≡ more)
split_same mark text v w rest more p q =
    let ends = word_ends (λ byte. not (byte == mark)) v w rest more mark mark p.first q.first (rw (eq-eqb mark mark refl) refl) (rw (eq-eqb mark mark refl) refl) (sym p.whole ∙ q.whole) in
    let after : mark ∷ rest ≡ mark ∷ more = ends.1 in
    (ends.0, cc)

-- ---- a text and its first bytes

-- a part that ends among the first bytes
pub window_split : (n mark : ℕ) (line back : List ℕ) → length line < n → (rest : List ℕ) × (take n (line ++ mark ∷ back) ≡ line ++ mark ∷ rest)
window_split zero mark line back h = absurd (omega arith)
window_split (suc n) mark [] back h = (take n back, refl)
window_split (suc n) mark (byte ∷ line) back h =
    let more = window_split n mark line back (omega arith) in
    (more.0, ap (λ l. byte ∷ l) more.1)

-- a text with a byte isn't empty
some_byte : (mark : ℕ) (line back : List ℕ) → [] ≡ line ++ mark ∷ back → ⊥
some_byte mark [] back h = cc
some_byte mark (byte ∷ line) back h = cc

-- what follows the mark in the first bytes follows it in the text
pub split_window : (n mark : ℕ) (text line back : List ℕ) → take n text ≡ line ++ mark ∷ back → text ≡ line ++ mark ∷ drop (suc (length line)) text
split_window zero mark text line back h = absurd (some_byte mark line back h)
split_window (suc n) mark [] line back h = absurd (some_byte mark line back h)
split_window (suc n) mark (byte ∷ text) [] back h =
    let same : byte ≡ mark = cc in
    ap (λ b. b ∷ text) same
split_window (suc n) mark (byte ∷ text) (first ∷ line) back h =
    let same : byte ≡ first = cc in
    let rest : take n text ≡ line ++ mark ∷ back = cc in
    let more = split_window n mark text line back rest in
    λ i. same i ∷ more i

-- so the text is split as its first bytes are
pub split_in_window : (n mark : ℕ) (text line back rest : List ℕ) → IsSplit mark (take n text) line back → rest ≡ drop (length line + 1) text → IsSplit mark text line rest
split_in_window n mark text line back rest h e =
    record {
      whole = split_window n mark text line back h.whole ∙ ap (λ more. line ++ mark ∷ more) (ap (λ k. drop k text) (sym (add-one (length line))) ∙ sym e);
      first = h.first;
    }

-- and has room for the mark after what stands before it
pub room_in_window : (n mark : ℕ) (text line back : List ℕ) → IsSplit mark (take n text) line back → length line + 1 ≤ length text
room_in_window n mark text line back h =
    let len = ap length (split_window n mark text line back h.whole) ∙ length-append line (mark ∷ drop (suc (length line)) text) in
    omega arith

-- a part that is short enough ends among the first bytes
pub no_split_in_window : (n most mark : ℕ) (text : List ℕ) → n ≡ min (length text) most
    → ((prefix back : List ℕ) → take n text ≡ prefix ++ mark ∷ back → ⊥)
    → (line back : List ℕ) → length line < most → text ≡ line ++ mark ∷ back → ⊥
no_split_in_window n most mark text e none line back short whole =
    let len = ap length whole ∙ length-append line (mark ∷ back) in
    let part = window_split n mark line back (rw e (min_above (length line) (length text) most (omega arith) short)) in
    none line part.0 (ap (take n) whole ∙ part.1)
  where
    min_above : (a b c : ℕ) → a < b → a < c → a < min b c
    min_above a b c p q = omega arith
