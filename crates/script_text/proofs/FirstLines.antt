-- What the first line of a text leaves of its lines.
use Rattle.std.proofs.Common.{◌≡◌, ◌<◌, ℕ, Bool, true, false, List, [], ◌∷◌, length, take, drop, refl, sym, ap, ◌∙◌, arith, one-add}
use Rattle.std.specs.List.{position_or_len}
use Rattle.poke_base.specs.Text.{longer_by}
use Rattle.script_text.specs.Lines.{is_line_feed, lines}

-- how many bytes stand before the first line feed
abbrev pub first_len : List ℕ → ℕ
first_len text = position_or_len is_line_feed text

-- a text that has a byte begins with a line, and the lines of what stands after its line feed follow
pub lines-first : (text : List ℕ) → 0 < length text → lines text ≡ take (first_len text) text ∷ lines (drop 1 (drop (first_len text) text))
lines-first [] some = absurd (omega arith)
lines-first (byte ∷ text) some = step (is_line_feed byte) refl (later text (λ more. lines-first text more))
  where
    later : (rest : List ℕ) → (0 < length rest → lines rest ≡ take (first_len rest) rest ∷ lines (drop 1 (drop (first_len rest) rest)))
        → longer_by byte (lines rest) ≡ (byte ∷ take (first_len rest) rest) ∷ lines (drop 1 (drop (first_len rest) rest))
    later [] first = refl
    later (next ∷ rest) first = rw (first (omega arith)) refl

    step : (feed : Bool) → is_line_feed byte ≡ feed
        → longer_by byte (lines text) ≡ (byte ∷ take (first_len text) text) ∷ lines (drop 1 (drop (first_len text) text))
        → lines (byte ∷ text) ≡ take (first_len (byte ∷ text)) (byte ∷ text) ∷ lines (drop 1 (drop (first_len (byte ∷ text)) (byte ∷ text)))
    step true told longer = rw told refl
    step false told longer = rw (told, one-add) longer

-- the same, as the parts of a text: with a line feed, and without
pub lines-fed : (text line end rest : List ℕ) (n byte : ℕ) → 0 < length text → n ≡ first_len text → line ≡ take n text → end ≡ drop n text → end ≡ byte ∷ rest
    → lines text ≡ line ∷ lines rest
lines-fed text line end rest n byte some e front back here =
    lines-first text some ∙ (λ i. take (sym e i) text ∷ lines (drop 1 (drop (sym e i) text))) ∙ (λ i. sym front i ∷ lines (drop 1 (sym back i))) ∙ ap (λ (ys : List ℕ). line ∷ lines (drop 1 ys)) here

pub lines-last : (text line end : List ℕ) (n : ℕ) → 0 < length text → n ≡ first_len text → line ≡ take n text → end ≡ drop n text → length end ≡ 0
    → lines text ≡ line ∷ lines end
lines-last text line [] n some e front back none =
    lines-first text some ∙ (λ i. take (sym e i) text ∷ lines (drop 1 (drop (sym e i) text))) ∙ (λ i. sym front i ∷ lines (drop 1 (sym back i)))
lines-last text line (byte ∷ rest) n some e front back none = absurd (omega arith)
