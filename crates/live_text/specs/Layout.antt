-- The rounds that are laid out so far.
use Rattle.std.specs.Prelude.{◌≡◌, ◌<◌, ◌+◌, ℕ, List, [], ◌∷◌, ◌++◌, map, length, slice_index, take, IsSome}
use Rattle.insn_forms.specs.declared.forms.Change.{Change}
use Rattle.insn_forms.specs.Spelling.{spell, size}
use Rattle.insn_forms.specs.Write.{Write}
use Rattle.poke_batch.specs.Poke.{traps, tails, firsts}
use Rattle.live_text.specs.declared.plan.LiveSite.{LiveSite}
use Rattle.live_text.specs.declared.view.PlacedWrite.{PlacedWrite}
use Rattle.live_text.specs.declared.layout.Rounds.{Rounds}
use Rattle.live_text.specs.Flat.{starts, place, placed, joined, ends}

-- the writes of these lists, and where each ends
pub record AreRounds (sites : List LiveSite) (lists : List (List Write)) (r : Rounds) : Type 0 where
  pub writes : r.writes.items ≡ map (placed sites) (joined lists)
  pub cuts : r.cuts.items ≡ ends 0 lists

-- the same lists and one more after a step
abbrev pub Adds : List LiveSite → List Write → Rounds → Rounds → Type 0
Adds sites writes old new = (lists : List (List Write)) → AreRounds sites lists old → AreRounds sites (lists ++ writes ∷ []) new

-- the same with the three rounds of a chunk
abbrev pub AddsChunk : List LiveSite → List Change → Rounds → Rounds → Type 0
AddsChunk sites chunk old new = (lists : List (List Write)) → AreRounds sites lists old → AreRounds sites (lists ++ traps chunk ∷ tails chunk ∷ firsts chunk ∷ []) new

-- the bytes of a change's site have numbers in a row
pub record IsInRow (sites : List LiveSite) (c : Change) : Type 0 where
  pub row : (i : ℕ) → i < size c.new → place sites (c.at + i) ≡ place sites c.at + i
  pub spelt : IsSome (spell c.new c.at)

-- writes of a row of bytes, by their numbers
abbrev pub row_from : ℕ → List ℕ → List PlacedWrite
row_from place [] = []
row_from place (byte ∷ bytes) = record { place = place; byte = byte } ∷ row_from (place + 1) bytes

-- the number of each site's first byte
pub record AreFirsts (sites : List LiveSite) (numbers : List ℕ) : Type 0 where
  pub count : length numbers ≡ length sites
  pub firsts : (i : ℕ) → i < length sites → slice_index numbers i ≡ length (starts (take i sites))
