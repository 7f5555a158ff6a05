-- The lines of a text.
use Rattle.std.specs.Prelude.{◌==◌, ℕ, Bool, true, if◌then◌else◌, List, [], ◌∷◌}
use Rattle.poke_base.specs.Text.{longer_by}

-- the lines, without the line feeds that end them; the last one may lack it
abbrev pub is_line_feed : ℕ → Bool
is_line_feed byte = byte == 10

abbrev pub lines : List ℕ → List (List ℕ)
lines [] = []
lines (byte ∷ text) = if is_line_feed byte then [] ∷ lines text else longer_by byte (lines text)

-- a line without a word, and one whose first word begins with `#`, is passed over
abbrev pub begins_comment : List ℕ → Bool
begins_comment [] = true
begins_comment (byte ∷ word) = byte == 35

abbrev pub is_passed_over : List (List ℕ) → Bool
is_passed_over [] = true
is_passed_over (word ∷ words) = begins_comment word
