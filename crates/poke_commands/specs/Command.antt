-- The commands, with the words that they are given.
use Rattle.std.specs.Prelude.{ℕ, List, [], ◌∷◌}
use Rattle.poke_base.specs.declared.host.AskedBy.{AskedBy}
use Rattle.poke_base.specs.declared.host.AskedBy.TheVariants.{Read, Make as MakeFile}

-- a command with the names of its files, in the order of its words, and its numbers
pub data Row : Type 0 where
  Plan : List ℕ → Row
  Show : List ℕ → Row
  Check : List ℕ → Row
  Make : ℕ → List ℕ → Row
  Wants : List ℕ → List ℕ → Row
  Run : List ℕ → List ℕ → List ℕ → ℕ → Row
  Replay : List ℕ → List ℕ → List ℕ → Row
  Bench : ℕ → ℕ → Row
  Live : List ℕ → List ℕ → ℕ → ℕ → Row

-- the file words of a command from left to right, each with the call that it is handed to
abbrev pub file_words : Row → List (List ℕ × AskedBy)
file_words (Plan file) = (file, Read) ∷ []
file_words (Show module_file) = (module_file, Read) ∷ []
file_words (Check module_file) = (module_file, Read) ∷ []
file_words (Make n module_file) = (module_file, MakeFile) ∷ []
file_words (Wants module_file script_file) = (module_file, Read) ∷ (script_file, Read) ∷ []
file_words (Run module_file script_file journal_file seed) =
    (module_file, Read) ∷ (script_file, Read) ∷ (journal_file, MakeFile) ∷ []
file_words (Replay module_file script_file journal_file) =
    (module_file, Read) ∷ (script_file, Read) ∷ (journal_file, Read) ∷ []
file_words (Bench n seed) = []
file_words (Live module_file script_file turns seed) = (module_file, Read) ∷ (script_file, Read) ∷ []
