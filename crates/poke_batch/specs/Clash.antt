-- Which changes can be poked, and which of them clash with the bytes that a text holds.
use Rattle.std.specs.Prelude.{◌≡◌, ◌≤◌, ◌<◌, ◌+◌, ◌^◌, ℕ, zero, suc, Bool, false, not, List, [], ◌∷◌, Option, Some, IsSome, unwrap_or, All, AllPairs, find}
use Rattle.std.specs.Str.{bytes_eq}
use Rattle.insn_forms.specs.declared.forms.Change.{Change}
use Rattle.insn_forms.specs.Spelling.{spell, size}
use Rattle.poke_batch.specs.declared.batch.Clash.{Clash}
use Rattle.poke_batch.specs.Poke.{spelled}

-- a change of a site that lies in the text, between two forms of one size that have spellings there
pub record IsPatchable (held : ℕ → Option ℕ) (c : Change) : Type 0 where
  pub one_size : size c.old ≡ size c.new
  pub old_spelt : IsSome (spell c.old c.at)
  pub new_spelt : IsSome (spell c.new c.at)
  pub below : c.at + size c.old ≤ 2 ^ 64
  pub inside : (j : ℕ) → j < size c.old → IsSome (held (c.at + j))

-- the changes can be poked in one batch: ascending, and no site reaches into the next
pub record CanPoke (held : ℕ → Option ℕ) (changes : List Change) : Type 0 where
  pub each : All (IsPatchable held) changes
  pub apart : AllPairs (λ (c d : Change). c.at + size c.old ≤ d.at) changes

-- n bytes of a text from an address on
abbrev pub held_bytes : (ℕ → Option ℕ) → ℕ → ℕ → List ℕ
held_bytes held at zero = []
held_bytes held at (suc n) = unwrap_or (held at) 0 ∷ held_bytes held (at + 1) n

-- the site holds the bytes of its old form
abbrev pub holds_old : (ℕ → Option ℕ) → Change → Bool
holds_old held c = bytes_eq (held_bytes held c.at (size c.old)) (spelled c.old c.at)

-- the first change whose site holds other bytes than those of its old form
abbrev pub first_clash : (ℕ → Option ℕ) → List Change → Option Change
first_clash held changes = find (λ c. not (holds_old held c)) changes

-- a clash names the first such change, what its site holds and what was expected there
pub record NamesClash (held : ℕ → Option ℕ) (changes : List Change) (clash : Clash) : Type 0 where
  pub change : Change
  pub first : first_clash held changes ≡ Some change
  pub at : clash.at ≡ change.at
  pub found : clash.found.items ≡ held_bytes held change.at (size change.old)
  pub expected : clash.expected.items ≡ spelled change.old change.at

-- a clash names this change, what its site holds and what was expected there
pub record ClashesAt (held : ℕ → Option ℕ) (change : Change) (clash : Clash) : Type 0 where
  pub differs : holds_old held change ≡ false
  pub at : clash.at ≡ change.at
  pub found : clash.found.items ≡ held_bytes held change.at (size change.old)
  pub expected : clash.expected.items ≡ spelled change.old change.at
