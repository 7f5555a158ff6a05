-- An open update, and the steps that go through the items of its poke.
use Rattle.std.specs.Prelude.{◌==◌, ℕ, Bool, true, false, if◌then◌else◌, List, [], ◌∷◌, ◌++◌, length, drop, slice_set, slice_index_or, replicate, Option, Some, None, ⊤}
use Rattle.std.specs.List.{flat_map, list_all}
use Rattle.insn_forms.specs.declared.forms.Form.{Form}
use Rattle.insn_forms.specs.declared.forms.Change.{Change}
use Rattle.insn_forms.specs.Spelling.{size}
use Rattle.poke_batch.specs.declared.batch.Due.{Due}
use Rattle.poke_batch.specs.declared.batch.Due.TheVariants.{Idle, Write, Request, Wait, Return}
use Rattle.poke_batch.specs.Poke.{Item, poke, chunks}
use Rattle.poke_batch.specs.Poke.Item.{Puts, Syncs}

-- an open update
pub record Walk : Type 0 where
  -- all changes of the update, ascending
  pub changes : List Change
  -- the open chunk; where all items were taken, the last one
  pub chunk : List Change
  -- the items of the open chunk that are still to come, the due one first
  pub left : List Item
  -- the chunks after the open one
  pub later : List (List Change)
  -- whether the request of the due synchronisation was made
  pub requested : Bool
  -- which processors have taken that request, by number
  pub took : List Bool

-- what a contract sees of a batch
pub record BatchState : Type 0 where
  -- how many sites there is room for, and how many processors there are
  pub sites : ℕ
  pub cpus : ℕ
  -- the open update
  pub update : Option Walk

-- no processor has taken a request
abbrev pub nobody : ℕ → List Bool
nobody cpus = replicate cpus false

-- the update at its first item; there is none without a change
abbrev pub at_first : ℕ → List Change → List (List Change) → Option Walk
at_first cpus changes [] = None
at_first cpus changes (chunk ∷ later) = Some (record {
  changes = changes;
  chunk = chunk;
  left = poke chunk;
  later = later;
  requested = false;
  took = nobody cpus;
})

abbrev pub opened : ℕ → List Change → Option Walk
opened cpus changes = at_first cpus changes (chunks changes)

-- the items that are still to come
abbrev pub to_come : Option Walk → List Item
to_come None = []
to_come (Some walk) = walk.left ++ flat_map poke walk.later

-- what is due where these items are left
abbrev pub due_at : List Item → Bool → Due
due_at [] requested = Return
due_at (Puts w ∷ left) requested = Write w.at w.byte
due_at (Syncs ∷ left) requested = if requested then Wait else Request

abbrev pub due_of : Option Walk → Due
due_of None = Idle
due_of (Some walk) = due_at walk.left walk.requested

-- a write, a request or a return is due
abbrev pub CanTake : Due → Type 0
CanTake Idle = ⊥
CanTake (Write at byte) = ⊤
CanTake Request = ⊤
CanTake Wait = ⊥
CanTake Return = ⊤

-- the update after its due write, request or return was done: after a return it is closed
abbrev pub moved_at : List Item → Walk → Option Walk
moved_at [] walk = None
moved_at (Puts w ∷ left) walk = Some (record walk { left = left })
moved_at (Syncs ∷ left) walk = Some (record walk { requested = true })

abbrev pub moved : Walk → Option Walk
moved walk = moved_at walk.left walk

-- after a synchronisation: what is left of the chunk, or else the next chunk
abbrev pub next_phase : List Item → List (List Change) → Walk → Walk
next_phase (item ∷ left) later walk = record walk { left = item ∷ left }
next_phase [] (chunk ∷ later) walk = record walk { chunk = chunk; left = poke chunk; later = later }
next_phase [] [] walk = record walk { left = [] }

abbrev pub passed : Walk → Walk
passed walk =
    next_phase (drop 1 walk.left) walk.later (record walk { requested = false; took = nobody (length walk.took) })

-- the update after a processor has taken the request: after the last one the next phase is due
abbrev pub taken : ℕ → Walk → Walk
taken cpu walk =
    let took = slice_set walk.took cpu true in
    if list_all (λ t. t) took then passed walk else record walk { took = took }

-- whether a processor has taken the request that stands
abbrev pub has_taken : Option Walk → ℕ → Bool
has_taken None cpu = false
has_taken (Some walk) cpu = slice_index_or walk.took cpu false

-- the new form, with its size, of the site of some changes that begins at an address
abbrev pub new_form : List Change → ℕ → Option (Form × ℕ)
new_form [] at = None
new_form (c ∷ changes) at = if c.at == at then Some (c.new, size c.new) else new_form changes at

abbrev pub open_form : Option Walk → ℕ → Option (Form × ℕ)
open_form None at = None
open_form (Some walk) at = new_form walk.chunk at
