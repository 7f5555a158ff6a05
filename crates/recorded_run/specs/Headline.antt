-- The headline: what is so of every legal list of events of an accepted module and a script of it.
use Rattle.std.specs.Prelude.{◌≡◌, ℕ, List, ◌∷◌, ◌++◌, Some, None, IsSome}
use Rattle.std.specs.List.{Contains}
use Rattle.insn_forms.specs.declared.forms.Change.{Change}
use Rattle.key_state.specs.Outcome.{HoldsWanted, outcomes}
use Rattle.module_image.specs.Held.{first_states}
use Rattle.module_image.specs.Module.{Module}
use Rattle.module_image.specs.SiteLine.{site_lines}
use Rattle.run_journal.specs.declared.event.Event.{Event}
use Rattle.script_runner.specs.TraceText.{trace_text}
use Rattle.script_text.specs.Commands.{commands}
use Rattle.script_text.specs.Script.{ScriptValue}
use Rattle.switching.specs.Journal.{after, lines}
use Rattle.switching.specs.Laws.{IsPass, changing, ends, held_text, numbered}
use Rattle.switching.specs.Said.{Passes, said}
use Rattle.switching.specs.State.{State, first}
use Rattle.switching.specs.Switching as switching
use Rattle.x64_subset.specs.declared.insn.Insn.{Insn}
use Rattle.x64_subset.specs.Whole.{insn_of}
use Rattle.recorded_run.specs.Trace.{trace}

-- the state in which the events of a run come to an event, after those before it
abbrev pub at_event : Module → ScriptValue → List Event → State
at_event m script before = after m (first m script) before

-- a processor is shown to pass a site by an instruction
abbrev pub Shows : Module → State → Event → ℕ → ℕ → Insn → Type 0
Shows m s e c at insn = Contains (said m s e) (Passes c at insn)

-- 1. the trace is the one of the machine that knows whole instructions alone: its lines, and at the end the sites of a text that
-- holds what its keys prescribe
pub record IsSwitched (m : Module) (script : ScriptValue) (events : List Event) : Type 0 where
  pub defined : switching.IsDefined m (switching.first m script) events
  pub done : switching.IsDone (switching.after m (switching.first m script) events)
  pub held : List ℕ
  pub holds : HoldsWanted m (switching.after m (switching.first m script) events).states held
  pub is : trace m (first m script) events ≡ trace_text (switching.lines m (switching.first m script) events) ++ site_lines m.base held m.sites

-- 2. each pass through a site is its whole old or whole new instruction
abbrev pub PassesWhole : Module → ScriptValue → List Event → Type 0
PassesWhole m script events =
    (before : List Event) (e : Event) (rest : List Event) (c at : ℕ) (insn : Insn) → before ++ e ∷ rest ≡ events
    → Shows m (at_event m script before) e c at insn → IsPass m (at_event m script before) at insn

-- the same update is open before and after some events
pub record IsOneUpdate (m : Module) (s : State) (events : List Event) : Type 0 where
  pub same : (after m s events).updates ≡ s.updates
  pub open_still : IsSome (after m s events).opened

-- 3. within one update no processor does a site's old instruction after the new one
abbrev pub NeverOldAgain : Module → ScriptValue → List Event → Type 0
NeverOldAgain m script events =
    (before : List Event) (e : Event) (between : List Event) (later : Event) (rest : List Event) (c at : ℕ) (change : Change) (insn : Insn)
    → before ++ e ∷ (between ++ later ∷ rest) ≡ events → IsOneUpdate m (at_event m script before) (e ∷ between)
    → changing (at_event m script before).opened at ≡ Some change
    → Shows m (at_event m script before) e c at (insn_of change.new)
    → Shows m (at_event m script (before ++ e ∷ between)) later c at insn → insn ≡ insn_of change.new

-- 4. once an update has returned, and until the next one begins, only what the sites want is done
abbrev pub OnlyNewAfterReturn : Module → ScriptValue → List Event → Type 0
OnlyNewAfterReturn m script events =
    (before : List Event) (e : Event) (rest : List Event) (c at : ℕ) (insn : Insn) → before ++ e ∷ rest ≡ events
    → (at_event m script before).opened ≡ None → Shows m (at_event m script before) e c at insn
    → insn ≡ insn_of (switching.wanted_at m (at_event m script before).states at)

-- 5. at the end every site that isn't foreign holds what its key, its target or its trace state prescribes, and every other byte
-- is as the module was accepted
abbrev pub HoldsWhatIsWanted : Module → ScriptValue → List Event → Type 0
HoldsWhatIsWanted m script events = HoldsWanted m (at_event m script events).states (held_text m (at_event m script events))

-- 6. the updates end as the script's commands do one after the other, whatever the processors did meanwhile
abbrev pub EndsAsCommands : Module → ScriptValue → List Event → Type 0
EndsAsCommands m script events =
    ends (lines m (first m script) events) ≡ numbered 1 (outcomes m (first_states m) (commands script.steps))

pub record Headline (m : Module) (script : ScriptValue) (events : List Event) : Type 0 where
  pub switched : IsSwitched m script events
  pub whole : PassesWhole m script events
  pub never_old_again : NeverOldAgain m script events
  pub only_new_after_return : OnlyNewAfterReturn m script events
  pub holds_what_is_wanted : HoldsWhatIsWanted m script events
  pub ends_as_commands : EndsAsCommands m script events
