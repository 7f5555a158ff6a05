-- What joins a state of the byte machine and one of the switching machine at every moment of a legal journal. Records speak of
-- the parts that they are about, not of whole states.
use Rattle.std.proofs.Common.{◌≡◌, ◌+◌, ◌<◌, ◌≤◌, ℕ, zero, suc, Bool, true, false, List, [], ◌∷◌, ◌++◌, length, map, drop, All, Contains, Option, Some, None, option_map, slice_get, slice_index, slice_index_or}
use Rattle.std.specs.List.{flat_map}
use Rattle.insn_forms.specs.declared.forms.Change.{Change}
use Rattle.insn_forms.specs.declared.forms.Form.{Form}
use Rattle.insn_forms.specs.History.{Memory, byte, written}
use Rattle.insn_forms.specs.Write.{Write}
use Rattle.x64_subset.specs.declared.proc.Proc.{Proc}
use Rattle.poke_batch.specs.Poke.{Item, from_firsts, from_tails, spelled}
use Rattle.poke_batch.specs.Poke.Item.{Puts, Syncs}
use Rattle.poke_batch.specs.Underway.{AreApart}
use Rattle.poke_batch.specs.Walk.{Walk}
use Rattle.key_state.specs.Changes.{AreStatesOf, changes, first_foreign}
use Rattle.module_parts.specs.declared.site.Site.{Site}
use Rattle.module_image.specs.Flows.{Flows}
use Rattle.module_image.specs.Held as held
use Rattle.module_image.specs.Layout.{site_at}
use Rattle.module_image.specs.Module.{Module, States, layout_of}
use Rattle.script_text.specs.declared.script.ScriptStep.{ScriptStep}
use Rattle.script_text.specs.Laws.{IsStepOf}
use Rattle.switching.specs.State.{Cpu, State, start}
use Rattle.switching.specs.Switching.{Switching, has_passed, wanted_at, with_new, without_runs}
use Rattle.switching.proofs.Alike.{IsLike}
use Rattle.switching.proofs.Rounds.{BytesAre, round}

-- how many of a chunk's three requests a processor has taken in a round, by whether it has taken that of the round
abbrev pub count : Bool → ℕ → ℕ
count true r = suc r
count false r = r

-- the changes of chunks
abbrev pub joined : List (List Change) → List Change
joined chunks = flat_map (λ (chunk : List Change). chunk) chunks

-- the items that are left of a chunk's poke in a round, of which some writes are to come
abbrev pub left_of : ℕ → List Change → List Write → List Item
left_of zero chunk todo = map Puts todo ++ Syncs ∷ from_tails chunk
left_of (suc zero) chunk todo = map Puts todo ++ Syncs ∷ from_firsts chunk
left_of (suc (suc zero)) chunk todo = map Puts todo ++ Syncs ∷ []
left_of (suc (suc (suc r))) chunk todo = []

-- how far the poke of a chunk has come: the round, 3 where all is done; the writes before it, those of it so far, and those
-- of it that are to come
pub record Place (ws : List Write) (chunk : List Change) (left : List Item) (later : List (List Change)) (requested : Bool) : Type 0 where
  pub r : ℕ
  pub past : List Write
  pub done : List Write
  pub todo : List Write
  pub most : r ≤ 3
  pub split : round r chunk ≡ done ++ todo
  pub over : r ≡ 3 → later ≡ []
  pub left_is : left ≡ left_of r chunk todo
  pub writes : ws ≡ past ++ done
  pub asked : requested ≡ true → (todo ≡ []) × (r < 3)

-- no site that is patched has a byte at an address
abbrev pub IsUncovered : Module → ℕ → Type 0
IsUncovered m at = (n : ℕ) (s : Site) → slice_get m.sites n ≡ Some s → s.foreign ≡ false → held.IsBeside at s

-- no change of some is at an address
abbrev pub IsElsewhere : List Change → ℕ → Type 0
IsElsewhere chunk at = (k : Change) → Contains chunk k → k.at ≡ at → ⊥

-- a text in which the patched sites hold these forms, but for the sites of a chunk, and the rest is as it was
pub record IsText (m : Module) (forms : ℕ → Form) (chunk : List Change) (mem : Memory) : Type 0 where
  pub sites :
      (n : ℕ) (s : Site) (j : ℕ) → slice_get m.sites n ≡ Some s → s.foreign ≡ false → IsElsewhere chunk s.at → j < s.len
      → mem (s.at + j) ≡ slice_index (spelled (forms s.at) s.at) j
  pub rest : (at : ℕ) → IsUncovered m at → mem at ≡ start m at

-- a trapped processor has hit the breakpoint of a site of the chunk, which stands while the processor has taken no request of it
pub record IsTrap (start : Memory) (ws : List Write) (chunk : List Change) (taken ip : ℕ) : Type 0 where
  pub change : Change
  pub has : Contains chunk change
  pub stands : ip ≡ change.at + 1
  pub few : taken ≤ 2
  pub set : taken ≡ 0 → written ws start change.at ≡ 0xcc

-- a processor while an update is open; `taken` is how many requests of the chunk it has taken
pub record CpuFacts (start : Memory) (ws past : List Write) (chunk later : List Change) (passed : List (ℕ × ℕ)) (c : ℕ) (took : Bool) (taken : ℕ) (p : Cpu) : Type 0 where
  pub from : length past ≤ p.mark
  pub to : p.mark ≤ length ws
  pub current : took ≡ true → length ws ≤ p.mark
  pub trap : p.state.trapped ≡ true → IsTrap start ws chunk taken p.state.proc.ip
  -- one that has passed a site as new serialised after its breakpoint was written, or has taken a request since
  pub as_new : (k : Change) → Contains chunk k → has_passed passed c k.at ≡ true → taken ≡ 0 → byte start ws p.mark k.at ≡ 0xcc
  pub not_yet : (k : Change) → Contains later k → has_passed passed c k.at ≡ true → ⊥

pub record OpenCpus (start : Memory) (ws past : List Write) (r : ℕ) (chunk later : List Change) (passed : List (ℕ × ℕ)) (requested : Bool) (took : List Bool) (cpus : List Cpu) : Type 0 where
  pub long : length took ≡ length cpus
  pub asked : (c : ℕ) → slice_index_or took c false ≡ true → requested ≡ true
  pub each :
      (c : ℕ) (p : Cpu) → slice_get cpus c ≡ Some p
      → CpuFacts start ws past chunk later passed c (slice_index_or took c false) (count (slice_index_or took c false) r) p

-- the changes of an open update: they lead from the states before it to those that are now, and their chunks are those that
-- are finished, the open one and later ones
pub record AreParts (m : Module) (states : States) (all finished chunk later : List Change) : Type 0 where
  pub before : States
  pub before_of : AreStatesOf m before
  pub is : all ≡ changes m before states
  pub ours : first_foreign m all ≡ None
  pub apart : AreApart all
  pub parts : all ≡ finished ++ (chunk ++ later)

pub record Opened (m : Module) (ws : List Write) (cpus : List Cpu) (states : States) (forms : ℕ → Form) (passed : List (ℕ × ℕ)) (walk : Walk) : Type 0 where
  pub finished : List Change
  pub parts : AreParts m states walk.changes finished walk.chunk (joined walk.later)
  pub forms_are : (at n : ℕ) → site_at m.sites at ≡ Some n → forms at ≡ wanted_at m parts.before at
  pub place : Place ws walk.chunk walk.left walk.later walk.requested
  pub bytes : BytesAre (written place.past (start m)) place.r walk.chunk
  pub text : IsText m (with_new finished (wanted_at m parts.before)) walk.chunk (written place.past (start m))
  pub cpus_are : OpenCpus (start m) ws place.past place.r walk.chunk (joined walk.later) passed walk.requested walk.took cpus

-- a processor while no update is open
pub record IsCurrent (ws : List Write) (p : Cpu) : Type 0 where
  pub free : p.state.trapped ≡ false
  pub mark : p.mark ≡ length ws

pub record Closed (m : Module) (ws : List Write) (cpus : List Cpu) (states : States) (forms : ℕ → Form) (passed : List (ℕ × ℕ)) : Type 0 where
  pub forms_are : (at n : ℕ) → site_at m.sites at ≡ Some n → forms at ≡ wanted_at m states at
  pub text : IsText m (wanted_at m states) [] (written ws (start m))
  pub cpus_are : (c : ℕ) (p : Cpu) → slice_get cpus c ≡ Some p → IsCurrent ws p
  pub nobody : passed ≡ []

abbrev pub Stands : Module → List Write → List Cpu → States → (ℕ → Form) → List (ℕ × ℕ) → Option Walk → Type 0
Stands m ws cpus states forms passed None = Closed m ws cpus states forms passed
Stands m ws cpus states forms passed (Some walk) = Opened m ws cpus states forms passed walk

-- a processor of both machines
pub record CpuPair (m : Module) (procs : List Proc) (c : ℕ) (p : Cpu) : Type 0 where
  pub proc : Proc
  pub here : slice_get procs c ≡ Some proc
  pub like : IsLike p.state.trapped p.state.proc proc
  pub flows : Flows (layout_of m) proc

-- the steps that haven't begun: the one of an open update stays in front in the byte machine
abbrev pub steps_left : Option Walk → List ScriptStep → List ScriptStep
steps_left None steps = steps
steps_left (Some walk) steps = drop 1 steps

abbrev pub open_changes : Option Walk → Option (List Change)
open_changes opened = option_map (λ (walk : Walk). walk.changes) opened

pub record Related (m : Module) (s : State) (t : Switching) : Type 0 where
  pub steps : t.steps ≡ without_runs (steps_left s.opened s.steps)
  pub steps_of : All (IsStepOf m) s.steps
  pub updates : t.updates ≡ s.updates
  pub states : t.states ≡ s.states
  pub states_of : AreStatesOf m s.states
  pub opened : t.opened ≡ open_changes s.opened
  pub pair : (c : ℕ) (p : Cpu) → slice_get s.cpus c ≡ Some p → CpuPair m t.procs c p
  pub stands : Stands m s.writes s.cpus s.states t.forms t.passed s.opened
