-- The open update that the fields of a batch stand for.
use Rattle.std.specs.Prelude.{◌≡◌, ℕ, ◌+◌, ◌≤◌, ◌<◌, Bool, false, if◌then◌else◌, List, [], ◌∷◌, ◌++◌, length, map, take, drop, vec_capacity, replicate, Option, Some, None, IfSome, All}
use Rattle.insn_forms.specs.declared.forms.Change.{Change}
use Rattle.insn_forms.specs.Write.{Write}
use Rattle.poke_batch.specs.declared.batch.Batch.TheInside.{Inside}
use Rattle.poke_batch.specs.declared.batch.Due.{Due}
use Rattle.poke_batch.specs.declared.batch.Due.TheVariants.{Idle as NoneDue}
use Rattle.poke_batch.specs.declared.patch.Patch.{Patch}
use Rattle.poke_batch.specs.declared.stage.Progress.{Progress}
use Rattle.poke_batch.specs.declared.stage.Round.TheVariants.{Traps, Tails, Firsts}
use Rattle.poke_batch.specs.declared.stage.Stage.{Stage}
use Rattle.poke_batch.specs.declared.stage.Stage.TheVariants.{Idle, Trap, Tail, First, Sync, Return}
use Rattle.poke_batch.specs.Poke.{Item, spelled, writes_from, traps, tails, firsts, from_tails, from_firsts, chunks}
use Rattle.poke_batch.specs.Poke.Item.{Puts, Syncs}
use Rattle.poke_batch.specs.Patch.{IsSpelt}
use Rattle.poke_batch.specs.Stage.{IsInside, is_idle, is_requested}
use Rattle.poke_batch.specs.Underway.{IsUnderway}
use Rattle.poke_batch.specs.Walk.{Walk, BatchState, due_at}

-- the new bytes of some sites, from this place of the first site on
abbrev pub tails_from : ℕ → List Change → List Write
tails_from place [] = []
tails_from place (c ∷ chunk) = writes_from (c.at + place) (drop place (spelled c.new c.at)) ++ tails chunk

-- the items of the chunk that are left
abbrev pub left_at : Stage → List Change → List Item
left_at Idle chunk = []
left_at (Trap site) chunk = map Puts (traps (drop site chunk)) ++ Syncs ∷ from_tails chunk
left_at (Tail site place) chunk = map Puts (tails_from place (drop site chunk)) ++ Syncs ∷ from_firsts chunk
left_at (First site) chunk = map Puts (firsts (drop site chunk)) ++ Syncs ∷ []
left_at (Sync Traps requested) chunk = Syncs ∷ from_tails chunk
left_at (Sync Tails requested) chunk = Syncs ∷ from_firsts chunk
left_at (Sync Firsts requested) chunk = Syncs ∷ []
left_at Return chunk = []

-- what is due at a stage
abbrev pub due_in : Stage → List Change → Due
due_in stage chunk = if is_idle stage then NoneDue else due_at (left_at stage chunk) (is_requested stage)

-- the open update at a stage of a chunk
abbrev pub walk_in : List Change → List (List Change) → Stage → List Change → List Bool → Walk
walk_in chunk later stage changes took = record {
  changes = changes;
  chunk = chunk;
  left = left_at stage chunk;
  later = later;
  requested = is_requested stage;
  took = took;
}

-- the chunk that begins after so many changes, and those after it
abbrev pub chunk_at : ℕ → List Change → List Change
chunk_at from changes = take 256 (drop from changes)

abbrev pub later_at : ℕ → List Change → List (List Change)
later_at from changes = chunks (drop 256 (drop from changes))

-- the open update, where one is open
abbrev pub walk_at : Progress → List Change → List Bool → Option Walk
walk_at progress changes took =
    if is_idle progress.stage then None
    else Some (walk_in (chunk_at progress.from changes) (later_at progress.from changes) progress.stage changes took)

-- the change of a patch
abbrev pub change_of : Patch → Change
change_of patch = patch.change

-- what a contract sees of the batch
abbrev pub state_of : Inside → BatchState
state_of b = record {
  sites = b.sites;
  cpus = b.cpus;
  update = walk_at b.progress (map change_of b.patches.items) (take b.cpus b.acks);
}

-- what holds of the fields of every batch
pub record IsSound (b : Inside) : Type 0 where
  pub some_cpus : 1 ≤ b.cpus
  pub most_cpus : b.cpus ≤ 16
  pub room : b.sites ≤ vec_capacity b.patches
  pub spelt : All IsSpelt b.patches.items
  pub from : b.progress.from ≤ length b.patches.items
  -- the due write is one of the open chunk, which has a site
  pub within : is_idle b.progress.stage ≡ false → b.progress.from < length b.patches.items
  pub inside : IsInside (chunk_at b.progress.from (map change_of b.patches.items)) b.progress.stage
  -- nobody has taken a request that doesn't stand
  pub unasked : is_requested b.progress.stage ≡ false → take b.cpus b.acks ≡ replicate b.cpus false
  pub underway : IfSome (walk_at b.progress (map change_of b.patches.items) (take b.cpus b.acks)) (IsUnderway b.cpus)
