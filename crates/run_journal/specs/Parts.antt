-- The parts of an event's line, as they are read.
use Rattle.std.specs.Prelude.{◌≡◌, ◌≤◌, ◌==◌, ℕ, List, ◌∷◌, ◌++◌, not, true}
use Rattle.std.specs.List.{list_all}
use Rattle.hex.specs.Hex.{encode_lower}
use Rattle.poke_base.specs.Number.{decimal}
use Rattle.run_journal.specs.declared.event.Event.{Event}
use Rattle.run_journal.specs.Spelling.{letter, cpu_of, bytes_of, cpu_word, bytes_word, event_line}
use Rattle.run_journal.specs.Laws.{HasLine, IsFetched}

-- what stands before the first byte of this value, and after it
pub record IsSplit (mark : ℕ) (text prefix back : List ℕ) : Type 0 where
  pub whole : text ≡ prefix ++ mark ∷ back
  pub first : list_all (λ byte. not (byte == mark)) prefix ≡ true

-- the word is the number of a processor
pub record IsCpu (word : List ℕ) (cpu : ℕ) : Type 0 where
  pub few : cpu ≤ 15
  pub spelt : word ≡ decimal cpu

-- the word is the bytes of a fetch
pub record IsCode (word bytes : List ℕ) : Type 0 where
  pub fetched : IsFetched bytes
  pub spelt : word ≡ encode_lower bytes

-- the words are the number of a processor after a space
pub record IsSpacedCpu (words : List ℕ) (cpu : ℕ) : Type 0 where
  pub few : cpu ≤ 15
  pub spelt : words ≡ 32 ∷ decimal cpu

-- the words are the number of a processor and the bytes of a fetch, each after a space
pub record IsSpacedFetch (words : List ℕ) (cpu : ℕ) (bytes : List ℕ) : Type 0 where
  pub few : cpu ≤ 15
  pub fetched : IsFetched bytes
  pub spelt : words ≡ 32 ∷ (decimal cpu ++ 32 ∷ encode_lower bytes)

-- the words after the letter
abbrev pub words_of : Event → List ℕ
words_of e = cpu_word (cpu_of e) ++ bytes_word (bytes_of e)

-- the letter of an event, and the words after it
pub record IsSpelt (e : Event) (first : ℕ) (words : List ℕ) : Type 0 where
  pub has_line : HasLine e
  pub begins : letter e ≡ first
  pub goes_on : words_of e ≡ words

-- the text begins with the line of an event
pub record BeginsWith (e : Event) (text back : List ℕ) : Type 0 where
  pub has_line : HasLine e
  pub whole : text ≡ event_line e ++ back
