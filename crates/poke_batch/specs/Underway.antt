-- What holds of every open update.
use Rattle.std.specs.Prelude.{◌≡◌, ◌≤◌, ◌+◌, ◌^◌, ℕ, true, false, List, [], ◌∷◌, ◌++◌, length, IsSome, All, AllPairs}
use Rattle.std.specs.List.{list_all}
use Rattle.insn_forms.specs.declared.forms.Change.{Change}
use Rattle.insn_forms.specs.Spelling.{spell, size}
use Rattle.poke_batch.specs.Poke.{Item, poke, chunks}
use Rattle.poke_batch.specs.Poke.Item.{Syncs}
use Rattle.poke_batch.specs.Walk.{Walk, nobody}

-- a change between two forms of one size that have spellings at its address
pub record IsSpellable (c : Change) : Type 0 where
  pub one_size : size c.old ≡ size c.new
  pub old_spelt : IsSome (spell c.old c.at)
  pub new_spelt : IsSome (spell c.new c.at)
  pub below : c.at + size c.old ≤ 2 ^ 64

-- the changes ascend, and no site reaches into the next
abbrev pub AreApart : List Change → Type 0
AreApart changes = AllPairs (λ (c d : Change). c.at + size c.old ≤ d.at) changes

-- an open update of a batch with so many processors
pub record IsUnderway (cpus : ℕ) (walk : Walk) : Type 0 where
  pub some_cpus : 1 ≤ cpus
  pub most_cpus : cpus ≤ 16
  -- there is a change, each has two spellings of one size, and they ascend without overlap
  pub some : 1 ≤ length walk.changes
  pub spelt : All IsSpellable walk.changes
  pub apart : AreApart walk.changes
  -- earlier chunks, the open one and later ones are the chunks of the changes
  pub earlier : List (List Change)
  pub split : earlier ++ walk.chunk ∷ walk.later ≡ chunks walk.changes
  -- what is left of the open chunk's poke is a suffix of it
  pub gone : List Item
  pub suffix : gone ++ walk.left ≡ poke walk.chunk
  -- nothing is left only of the last chunk
  pub last : walk.left ≡ [] → walk.later ≡ []
  -- there is a flag for each processor, and not every processor has taken the request
  pub flags : length walk.took ≡ cpus
  pub unfinished : list_all (λ taken. taken) walk.took ≡ false
  -- nobody has taken a request that wasn't made
  pub unasked : walk.requested ≡ false → walk.took ≡ nobody cpus
  -- a request stands only where a synchronisation is due
  pub asked : walk.requested ≡ true → (rest : List Item) × (walk.left ≡ Syncs ∷ rest)
