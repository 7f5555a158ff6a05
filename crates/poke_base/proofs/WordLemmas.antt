-- What the first blanks and the first word of a line leave of its words.
use Rattle.std.proofs.Common.{◌≡◌, ℕ, ◌<◌, ◌≤◌, Bool, true, false, cond, not, ltb, List, [], ◌∷◌, length, take, drop, Option, Some, None, unwrap_or, refl, sym, ap, ◌∙◌, arith, one-add}
use Rattle.std.specs.List.{position_or_len}
use Rattle.std.proofs.lemmas.Bool.Decides.{nat_tests}
use Rattle.poke_base.specs.Text.{begins_no_word, is_blank, words}

-- a place that was found, or else the length, is the place or the length
pub found_or_len : (place len : ℕ) (found : Option ℕ) → place ≤ len → found ≡ cond (ltb place len) (Some place) None → unwrap_or found len ≡ place
found_or_len place len found h e = rw e (grind (arith, nat_tests))

-- how many blanks a line begins with
abbrev pub blanks : List ℕ → ℕ
blanks line = position_or_len (λ byte. not (is_blank byte)) line

-- a blank in front is one more
words-blank : (blank : Bool) (byte : ℕ) (line : List ℕ) → is_blank byte ≡ blank → words (drop (blanks line) line) ≡ words line
    → words (drop (blanks (byte ∷ line)) (byte ∷ line)) ≡ words (byte ∷ line)
words-blank true byte line e same = rw (e, one-add) same
words-blank false byte line e same = rw (e, e) refl

-- blanks in front are no words
pub words-drop_blanks : (line : List ℕ) → words (drop (blanks line) line) ≡ words line
words-drop_blanks [] = refl
words-drop_blanks (byte ∷ line) = words-blank (is_blank byte) byte line refl (words-drop_blanks line)

-- after the blanks stands a word, or nothing
pub begins_no_word-drop_blanks : (line : List ℕ) → 0 < length (drop (blanks line) line) → begins_no_word (drop (blanks line) line) ≡ false
begins_no_word-drop_blanks [] h = absurd (omega arith)
begins_no_word-drop_blanks (byte ∷ line) h = step (is_blank byte) refl (begins_no_word-drop_blanks line) h
  where
    step : (blank : Bool) → is_blank byte ≡ blank
        → (0 < length (drop (blanks line) line) → begins_no_word (drop (blanks line) line) ≡ false)
        → 0 < length (drop (blanks (byte ∷ line)) (byte ∷ line)) → begins_no_word (drop (blanks (byte ∷ line)) (byte ∷ line)) ≡ false
    step true e rest h = rw (e, one-add) (rest (rw (e, one-add) at h))
    step false e rest h = rw (e, e) refl

-- how many bytes stand before the first blank
abbrev pub first_len : List ℕ → ℕ
first_len text = position_or_len is_blank text

-- in front of a blank, or of nothing, there is no more of the word
first_len-end : (text : List ℕ) → begins_no_word text ≡ true → first_len text ≡ 0
first_len-end [] h = refl
first_len-end (byte ∷ text) h = rw h refl

-- a word that begins has a byte
pub first_len-some : (line text : List ℕ) → text ≡ drop (blanks line) line → 0 < length text → 0 < first_len text
first_len-some line [] e some = absurd (omega arith)
first_len-some line (byte ∷ text) e some =
    let begins : is_blank byte ≡ false = rw (← e) at (begins_no_word-drop_blanks line (omega (arith, ap length e))) in rw begins (omega arith)

-- a text that begins a word has it in front of the words of the rest
pub words-first : (text : List ℕ) → begins_no_word text ≡ false → words text ≡ take (first_len text) text ∷ words (drop (first_len text) text)
words-first [] h = absurd (cc)
words-first (byte ∷ text) h = step (begins_no_word text) refl (words-first text)
  where
    step : (last : Bool) → begins_no_word text ≡ last
        → (begins_no_word text ≡ false → words text ≡ take (first_len text) text ∷ words (drop (first_len text) text))
        → words (byte ∷ text) ≡ take (first_len (byte ∷ text)) (byte ∷ text) ∷ words (drop (first_len (byte ∷ text)) (byte ∷ text))
    step true e rest = rw (h, e, first_len-end text e) refl
    step false e rest = rw (h, e, one-add, rest e) refl

-- a line of blanks has no words
pub words-none : (line text : List ℕ) → text ≡ drop (blanks line) line → length text ≡ 0 → words line ≡ []
words-none line [] e empty = sym (words-drop_blanks line) ∙ ap words (sym e)
words-none line (byte ∷ text) e empty = absurd (omega arith)

-- the words of a line are its first word and those of the rest
pub words-some : (line text prefix back : List ℕ) → text ≡ drop (blanks line) line → 0 < length text
    → prefix ≡ take (first_len text) text → back ≡ drop (first_len text) text → words line ≡ prefix ∷ words back
words-some line text prefix back e some first rest =
    let begins = begins_no_word-drop_blanks line (omega (arith, ap length e)) in
    sym (words-drop_blanks line) ∙ ap words (sym e) ∙ words-first text (rw e begins) ∙ (λ i. sym first i ∷ words (sym rest i))
