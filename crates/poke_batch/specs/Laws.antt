-- What joins the chunks of an update again.
use Rattle.std.specs.Prelude.{◌≡◌, ◌≤◌, List, [], ◌∷◌, length, ⊤}
use Rattle.std.specs.List.{flat_map}
use Rattle.insn_forms.specs.declared.forms.Change.{Change}
use Rattle.poke_batch.specs.Poke.{chunks}

-- each chunk but the last has 256 changes, and the last 1 to 256
abbrev pub AreFull : List (List Change) → Type 0
AreFull [] = ⊤
AreFull (chunk ∷ []) = (1 ≤ length chunk) × (length chunk ≤ 256)
AreFull (chunk ∷ next ∷ later) = (length chunk ≡ 256) × AreFull (next ∷ later)

-- the chunks of an update are its changes, in order, cut after each 256th
pub record AreChunks (changes : List Change) : Type 0 where
  pub joined : flat_map (λ (chunk : List Change). chunk) (chunks changes) ≡ changes
  pub full : AreFull (chunks changes)

abbrev pub ChunksAreChanges : Type 0
ChunksAreChanges = (changes : List Change) → AreChunks changes
