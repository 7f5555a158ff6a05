-- What a fetch asks of a text, and what it gives.
use Rattle.std.specs.Prelude.{◌≡◌, ◌<◌, ℕ, ◌+◌, ◌^◌, List, length, slice_get, slice_index, take, Some, Err}
use Rattle.insn_forms.specs.History.{text_memory}
use Rattle.stale_fetch.specs.Past.{Past, candidates}
use Rattle.x64_subset.specs.declared.insn.Undecoded.TheVariants.{Short}
use Rattle.x64_subset.specs.Reading.{read}
use Rattle.cpu_core.specs.Fetch.{AreCandidates, picked}

-- the text stands for a past, and no address of it wraps, nor the one after it
pub record IsStanding (stands : Past → Type 0) : Type 0 where
  pub past : Past
  pub is : stands past
  pub below : past.base + length past.text < 2 ^ 64

-- where the text ends
abbrev pub end_of : Past → ℕ
end_of p = p.base + length p.text

-- the byte at each place is the candidate that the word picks for it
abbrev pub ArePicked : ℕ → Past → ℕ → ℕ → List ℕ → Type 0
ArePicked word p cpu at bytes =
    (j byte : ℕ) → slice_get bytes j ≡ Some byte → byte ≡ picked word j (candidates p cpu (at + j))

-- each byte is a candidate of the processor
abbrev pub AreIts : Past → ℕ → ℕ → List ℕ → Type 0
AreIts p cpu at bytes = AreCandidates (text_memory p.base p.text) p.writes (slice_index p.marks cpu) at bytes

-- it took all of the bytes to tell what they are
abbrev pub HasShortPrefixes : ℕ → List ℕ → Type 0
HasShortPrefixes at bytes = (n : ℕ) → n < length bytes → read at (take n bytes) ≡ Err Short
