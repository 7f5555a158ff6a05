-- The switching theorem: what the byte machine and the switching machine have to do with one another, over every legal journal.
use Rattle.std.specs.Prelude.{◌≡◌, ◌≢◌, ◌⊎◌, ◌<◌, ◌≤◌, ℕ, ◌+◌, if◌then◌else◌, List, [], ◌∷◌, ◌++◌, length, map, slice_get, Option, Some, None, IsSome}
use Rattle.std.specs.List.{Contains, flat_map, range_with_len}
use Rattle.insn_forms.specs.declared.forms.Change.{Change}
use Rattle.insn_forms.specs.History.{IsCandidate, since, written}
use Rattle.insn_forms.specs.Spelling.{size}
use Rattle.cpu_core.specs.declared.turn.Stepped.TheVariants.{Torn}
use Rattle.cpu_core.specs.Turn.{at_answer, plain_answer, plain_here}
use Rattle.int3_handler.specs.declared.handler.Handled.TheVariants.{NotOurs}
use Rattle.int3_handler.specs.Handler.{answer}
use Rattle.key_state.specs.Changes.{changes_by, first_foreign}
use Rattle.key_state.specs.Outcome.{Ending, HoldsWanted, outcomes}
use Rattle.module_parts.specs.declared.command.Command.{Command}
use Rattle.module_image.specs.Held.{first_states}
use Rattle.module_image.specs.Lent.{IsPatchedSite}
use Rattle.module_image.specs.Module.{Module, IsAccepted}
use Rattle.poke_batch.specs.Clash.{first_clash}
use Rattle.poke_batch.specs.Poke.{Item}
use Rattle.poke_batch.specs.Poke.Item.{Puts, Syncs}
use Rattle.poke_batch.specs.Walk.{Walk, has_taken}
use Rattle.run_journal.specs.declared.event.Event.{Event}
use Rattle.run_journal.specs.declared.event.Event.TheVariants.{Plain, At, Handle}
use Rattle.script_text.specs.declared.script.ScriptStep.{ScriptStep}
use Rattle.script_text.specs.declared.script.ScriptStep.TheVariants.{Update}
use Rattle.script_text.specs.Commands.{commands}
use Rattle.script_text.specs.Laws.{IsScriptOf}
use Rattle.script_text.specs.Script.{ScriptValue}
use Rattle.x64_subset.specs.declared.insn.Insn.{Insn}
use Rattle.x64_subset.specs.Whole.{insn_of}
use Rattle.switching.specs.Journal.{IsLegal, IsLegalSoFar, after, lines}
use Rattle.switching.specs.May.{May}
use Rattle.switching.specs.Said.{TraceLine, Opens, Ends, Drops, Passes, Outs, Stops, said}
use Rattle.switching.specs.State.{Cpu, State, first, held_after, start}
use Rattle.switching.specs.Switching as switching
use Rattle.switching.specs.Table.{IsInTable}

-- a state of the byte machine that a legal prefix leads to, of an accepted module and a script of it
pub record IsReached (m : Module) (s : State) : Type 0 where
  pub accepted : IsAccepted m
  pub script : ScriptValue
  pub is_script : IsScriptOf m script
  pub events : List Event
  pub legal : IsLegalSoFar m (first m script) events
  pub is : s ≡ after m (first m script) events

-- 1. over every legal prefix the switching machine is defined, and shows the same lines
pub record Switches (m : Module) (script : ScriptValue) (events : List Event) : Type 0 where
  pub defined : switching.IsDefined m (switching.first m script) events
  pub same : lines m (first m script) events ≡ switching.lines m (switching.first m script) events

abbrev pub TracesAreSwitched : Type 0
TracesAreSwitched =
    (m : Module) (script : ScriptValue) (events : List Event) → IsAccepted m → IsScriptOf m script
    → IsLegalSoFar m (first m script) events → Switches m script events

-- after a legal journal all updates and drops have begun in it, and none is open
abbrev pub JournalsAreDone : Type 0
JournalsAreDone =
    (m : Module) (script : ScriptValue) (events : List Event) → IsAccepted m → IsScriptOf m script
    → IsLegal m (first m script) events → switching.IsDone (switching.after m (switching.first m script) events)

-- 2. where no update is open each patched site holds what its key, function or trace state prescribes, and every other byte
-- is as accepted; so it is at the end of every legal journal
abbrev pub held_text : Module → State → List ℕ
held_text m s = map (λ i. written s.writes (start m) (m.base + i)) (range_with_len 0 (length m.text))

abbrev pub SitesHoldWhatIsWanted : Type 0
SitesHoldWhatIsWanted = (m : Module) (s : State) → IsReached m s → s.opened ≡ None → HoldsWanted m s.states (held_text m s)

-- 3. how many synchronisations of a chunk's poke are still to come, and how many of its requests a processor has taken
abbrev pub syncs : List Item → ℕ
syncs [] = 0
syncs (Puts w ∷ items) = syncs items
syncs (Syncs ∷ items) = 1 + syncs items

pub record HasTaken (walk : Walk) (c taken : ℕ) : Type 0 where
  pub rounds : ℕ
  pub left : rounds + syncs walk.left ≡ 3
  pub is : taken ≡ (if has_taken (Some walk) c then rounds + 1 else rounds)

-- a byte of a site of the open chunk has the candidates of the table for each processor
pub record IsOfChunk (walk : Walk) (at : ℕ) (change : Change) (j : ℕ) : Type 0 where
  pub in_chunk : Contains walk.chunk change
  pub below : j < size change.old
  pub is : at ≡ change.at + j

abbrev pub CandidatesAreInTheTable : Type 0
CandidatesAreInTheTable =
    (m : Module) (s : State) (walk : Walk) (c : ℕ) (cpu : Cpu) (at : ℕ) (change : Change) (j taken byte : ℕ) → IsReached m s
    → s.opened ≡ Some walk → slice_get s.cpus c ≡ Some cpu → IsOfChunk walk at change j → HasTaken walk c taken
    → IsCandidate (start m) s.writes cpu.mark at byte → IsInTable taken change j byte

-- and every other byte has one, the one that is held
abbrev pub IsInChunk : Option Walk → ℕ → Type 0
IsInChunk None at = ⊥
IsInChunk (Some walk) at = (change : Change) × (j : ℕ) × IsOfChunk walk at change j

abbrev pub OtherBytesHaveOneCandidate : Type 0
OtherBytesHaveOneCandidate =
    (m : Module) (s : State) (c : ℕ) (cpu : Cpu) (at byte : ℕ) → IsReached m s → slice_get s.cpus c ≡ Some cpu
    → (IsInChunk s.opened at → ⊥) → IsCandidate (start m) s.writes cpu.mark at byte → byte ≡ written s.writes (start m) at

-- so no byte has more than two
abbrev pub CandidatesAreAtMostTwo : Type 0
CandidatesAreAtMostTwo =
    (m : Module) (s : State) (c : ℕ) (cpu : Cpu) (at : ℕ) → IsReached m s → slice_get s.cpus c ≡ Some cpu
    → length (since (start m) s.writes cpu.mark at) ≤ 2

-- 4. no fetch at a site is torn, a plain instruction is always there, and no breakpoint is anybody else's
abbrev pub IsWhole : Module → State → Event → Type 0
IsWhole m s (Plain c) = (cpu : Cpu) → slice_get s.cpus c ≡ Some cpu → plain_answer (plain_here m cpu.state) cpu.state.proc ≢ Torn
IsWhole m s (At c bytes) = (cpu : Cpu) → slice_get s.cpus c ≡ Some cpu → at_answer bytes.items cpu.state ≢ Torn
IsWhole m s (Handle c) = (cpu : Cpu) → slice_get s.cpus c ≡ Some cpu → answer s.opened cpu.state.proc ≢ NotOurs
IsWhole m s _ = Unit {0}

abbrev pub NothingIsTorn : Type 0
NothingIsTorn = (m : Module) (s : State) (e : Event) → IsReached m s → May m s e → IsWhole m s e

-- a clash comes exactly where a changed site is foreign, and names the first
abbrev pub ClashesAreForeign : Type 0
ClashesAreForeign =
    (m : Module) (s : State) (command : Command) (rest : List ScriptStep) → IsReached m s → s.opened ≡ None
    → s.steps ≡ Update command ∷ rest
    → first_clash (held_after m s.writes) (changes_by m s.states command) ≡ first_foreign m (changes_by m s.states command)

-- 5. the endings of the updates in a legal journal are the outcomes of the script's commands, in order
abbrev pub end_of : TraceLine → List (ℕ × Ending)
end_of (Opens update sites) = []
end_of (Ends update ending) = (update, ending) ∷ []
end_of (Drops place) = []
end_of (Passes c at insn) = []
end_of (Outs c port value) = []
end_of (Stops c life) = []

abbrev pub ends : List TraceLine → List (ℕ × Ending)
ends ls = flat_map end_of ls

abbrev pub numbered : ℕ → List Ending → List (ℕ × Ending)
numbered n [] = []
numbered n (ending ∷ endings) = (n, ending) ∷ numbered (n + 1) endings

abbrev pub EndingsAreOutcomes : Type 0
EndingsAreOutcomes =
    (m : Module) (script : ScriptValue) (events : List Event) → IsAccepted m → IsScriptOf m script
    → IsLegal m (first m script) events
    → ends (lines m (first m script) events) ≡ numbered 1 (outcomes m (first_states m) (commands script.steps))

-- 6. the passes that are shown: each is of a patched site, and is the whole old or the whole new instruction of a changed one,
-- else the one that the site wants
abbrev pub changing : Option Walk → ℕ → Option Change
changing None at = None
changing (Some walk) at = switching.change_at (Some walk.changes) at

abbrev pub IsPassOf : Module → State → Option Change → ℕ → Insn → Type 0
IsPassOf m s None at insn = insn ≡ insn_of (switching.wanted_at m s.states at)
IsPassOf m s (Some change) at insn = (insn ≡ insn_of change.old) ⊎ (insn ≡ insn_of change.new)

pub record IsPass (m : Module) (s : State) (at : ℕ) (insn : Insn) : Type 0 where
  pub site : ℕ
  pub is : IsPatchedSite m.sites at site
  pub whole : IsPassOf m s (changing s.opened at) at insn

abbrev pub PassesAreWhole : Type 0
PassesAreWhole =
    (m : Module) (s : State) (e : Event) (c at : ℕ) (insn : Insn) → IsReached m s → May m s e
    → Contains (said m s e) (Passes c at insn) → IsPass m s at insn

-- a changed site's old and new instructions are different, so that which of them was done can be seen
abbrev pub ChangesAreSeen : Type 0
ChangesAreSeen =
    (m : Module) (s : State) (walk : Walk) (change : Change) → IsReached m s → s.opened ≡ Some walk
    → Contains walk.changes change → insn_of change.old ≢ insn_of change.new

-- within one update no processor does a site's old instruction after the new one
abbrev pub NeverOldAfterNew : Type 0
NeverOldAfterNew =
    (m : Module) (s : State) (e : Event) (between : List Event) (later : Event) (c at : ℕ) (change : Change) (insn : Insn)
    → IsReached m s → IsLegalSoFar m s (e ∷ (between ++ later ∷ []))
    → (after m s (e ∷ between)).updates ≡ s.updates → changing s.opened at ≡ Some change
    → IsSome (after m s (e ∷ between)).opened
    → Contains (said m s e) (Passes c at (insn_of change.new))
    → Contains (said m (after m s (e ∷ between)) later) (Passes c at insn) → insn ≡ insn_of change.new

-- once an update has returned, and until the next one begins, a pass of a site is what the site wants
abbrev pub OnlyTheNewAfterReturn : Type 0
OnlyTheNewAfterReturn =
    (m : Module) (s : State) (e : Event) (c at : ℕ) (insn : Insn) → IsReached m s → May m s e → s.opened ≡ None
    → Contains (said m s e) (Passes c at insn) → insn ≡ insn_of (switching.wanted_at m s.states at)
