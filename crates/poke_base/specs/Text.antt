-- Texts as lists of bytes: prefixes, and the words of a line.
use Rattle.std.specs.Prelude.{◌≡◌, ◌==◌, ◌||◌, ℕ, Bool, true, if◌then◌else◌, List, [], ◌∷◌, length, take}

-- prefix is how text begins
abbrev pub IsPrefix : List ℕ → List ℕ → Type 0
IsPrefix prefix text = take (length prefix) text ≡ prefix

-- what stands between the words of a line: a space, a tab or a carriage return
abbrev pub is_blank : ℕ → Bool
is_blank byte = byte == 32 || byte == 9 || byte == 13

-- a word ends before a blank and at the end of the text
abbrev pub begins_no_word : List ℕ → Bool
begins_no_word [] = true
begins_no_word (byte ∷ text) = is_blank byte

-- the first word with one byte more in front
abbrev pub longer_by : ℕ → List (List ℕ) → List (List ℕ)
longer_by byte [] = (byte ∷ []) ∷ []
longer_by byte (word ∷ words) = (byte ∷ word) ∷ words

-- the words of a line, in order: the longest pieces without a blank
abbrev pub words : List ℕ → List (List ℕ)
words [] = []
words (byte ∷ text) =
    if is_blank byte then words text
    else if begins_no_word text then (byte ∷ []) ∷ words text
    else longer_by byte (words text)
