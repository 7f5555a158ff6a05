-- The lines of a script by their words, a row of the table each.
use Rattle.std.specs.Prelude.{ℕ, Bool, true, false, if◌then◌else◌, List, [], ◌∷◌, codes, Option, Some, None}
use Rattle.std.specs.Str.{bytes_eq}

-- a line, with the words after its first
pub data Line : Type 0 where
  Cpu : List ℕ → Line
  Inc : List ℕ → Line
  Dec : List ℕ → Line
  Enable : List ℕ → Line
  Disable : List ℕ → Line
  Call : List ℕ → List ℕ → Line
  Trace : Bool → List ℕ → Line
  Run : List ℕ → Line
  Drop : List ℕ → Line

-- one word after the first, and two
abbrev pub one_word : (List ℕ → Line) → List (List ℕ) → Option Line
one_word line [] = None
one_word line (word ∷ []) = Some (line word)
one_word line (word ∷ more ∷ rest) = None

abbrev pub two_words : (List ℕ → List ℕ → Line) → List (List ℕ) → Option Line
two_words line [] = None
two_words line (word ∷ []) = None
two_words line (word ∷ second ∷ []) = Some (line word second)
two_words line (word ∷ second ∷ more ∷ rest) = None

-- the line that words are, by its first word; none where there is no such command, or too few or too many words
abbrev pub line_of : List (List ℕ) → Option Line
line_of [] = None
line_of (name ∷ words) =
    if bytes_eq name (codes "cpu") then one_word Cpu words
    else if bytes_eq name (codes "inc") then one_word Inc words
    else if bytes_eq name (codes "dec") then one_word Dec words
    else if bytes_eq name (codes "enable") then one_word Enable words
    else if bytes_eq name (codes "disable") then one_word Disable words
    else if bytes_eq name (codes "call") then two_words Call words
    else if bytes_eq name (codes "trace") then one_word (Trace true) words
    else if bytes_eq name (codes "untrace") then one_word (Trace false) words
    else if bytes_eq name (codes "run") then one_word Run words
    else if bytes_eq name (codes "drop") then one_word Drop words
    else None

-- the line is a `cpu` line
abbrev pub is_cpu : Line → Bool
is_cpu (Cpu name) = true
is_cpu _ = false
