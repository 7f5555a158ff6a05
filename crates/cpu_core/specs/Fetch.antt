-- What a processor may fetch at an address: as many bytes as it takes to tell which instruction they are, or that they are none.
use Rattle.std.specs.Prelude.{◌≡◌, ◌<◌, ◌≤◌, ◌⊎◌, ℕ, ◌+◌, ◌*◌, ◌/◌, ◌%◌, ◌^◌, List, length, take, slice_get, slice_index, Some, Ok, Err}
use Rattle.insn_forms.specs.History.{Memory, IsCandidate}
use Rattle.insn_forms.specs.Write.{Write}
use Rattle.x64_subset.specs.declared.insn.Insn.{Insn}
use Rattle.x64_subset.specs.declared.insn.Undecoded.TheVariants.{Short, Unknown}
use Rattle.x64_subset.specs.Reading.{read}

-- the bytes are one instruction, all of them
abbrev pub IsInsn : ℕ → List ℕ → Type 0
IsInsn at bytes = (insn : Insn) × (read at bytes ≡ Ok (insn, length bytes))

-- no instruction begins as they do, and it took all of them to tell
abbrev pub IsUnknown : ℕ → List ℕ → Type 0
IsUnknown at bytes = (read at bytes ≡ Err Unknown) × ((n : ℕ) → n < length bytes → read at (take n bytes) ≡ Err Short)

-- they are too few to tell, and the text ends after them
abbrev pub IsCutOff : ℕ → ℕ → List ℕ → Type 0
IsCutOff end at bytes = (read at bytes ≡ Err Short) × (at + length bytes ≡ end)

-- bytes from an address on, in a text that ends at `end`, are a fetch
pub record IsFetch (end at : ℕ) (bytes : List ℕ) : Type 0 where
  pub inside : at + length bytes ≤ end
  pub told : IsInsn at bytes ⊎ IsUnknown at bytes ⊎ IsCutOff end at bytes

-- each byte is one that stood there at some time since the mark
abbrev pub AreCandidates : Memory → List Write → ℕ → ℕ → List ℕ → Type 0
AreCandidates start writes mark at bytes =
    (j byte : ℕ) → slice_get bytes j ≡ Some byte → IsCandidate start writes mark (at + j) byte

-- the candidate that a word picks for the byte at place j of a fetch: its own eight bits of the word, modulo their number
abbrev pub picked : ℕ → ℕ → List ℕ → ℕ
picked word j candidates = slice_index candidates (((word / 2 ^ (8 * j)) % 256) % length candidates)
