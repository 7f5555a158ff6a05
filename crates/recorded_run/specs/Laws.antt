-- Runs and replays.
use Rattle.std.specs.Prelude.{◌≡◌, ◌≢◌, ℕ, List}
use Rattle.std.specs.List.{Contains}
use Rattle.module_image.specs.Module.{IsAccepted, Module}
use Rattle.run_journal.specs.declared.event.Event.{Event}
use Rattle.run_journal.specs.Spelling.{journal}
use Rattle.script_text.specs.Laws.{IsScriptOf}
use Rattle.script_text.specs.Script.{ScriptValue}
use Rattle.switching.specs.Journal.{IsLegal}
use Rattle.switching.specs.State.{State, first}
use Rattle.tracer_ops.specs.declared.tracer.TracerRule.TheVariants.{Untold}
use Rattle.tracer_ops.specs.Meaning.{Meaning}
use Rattle.recorded_run.specs.Fed.{fed_events}
use Rattle.recorded_run.specs.Headline.{Headline}
use Rattle.recorded_run.specs.Replaying.{IsRefusedAt, IsReplayed}
use Rattle.recorded_run.specs.Running.{IsRun}
use Rattle.recorded_run.specs.Tally.{IsTally}

-- the journal of every legal list of events is replayed as these events, and is refused at no line
abbrev pub LegalJournalsAreReplayed : Type 0
LegalJournalsAreReplayed =
    (m : Module) (script : ScriptValue) (events : List Event) → IsAccepted m → IsScriptOf m script → IsLegal m (first m script) events
    → IsReplayed m (first m script) (journal events) events
    × ((others : List Event) (line : ℕ) → IsRefusedAt m (first m script) (journal events) others line → ⊥)

-- a text is replayed as one list of events, and only where it is their journal
abbrev pub ReplaysAreOne : Type 0
ReplaysAreOne =
    (m : Module) (script : ScriptValue) (text : List ℕ) (events others : List Event) → IsReplayed m (first m script) text events
    → IsReplayed m (first m script) text others → (text ≡ journal events) × (events ≡ others)

-- so what a run wrote is replayed as its events
abbrev pub RunsAreReplayed : Type 0
RunsAreReplayed =
    (m : Module) (script : ScriptValue) (seed : ℕ) (events : List Event) → IsAccepted m → IsScriptOf m script → IsRun m script seed events
    → IsReplayed m (first m script) (journal events) events

-- the headline is so of all legal events of an accepted module and a script of it
abbrev pub LegalRunsAreWhole : Type 0
LegalRunsAreWhole =
    (m : Module) (script : ScriptValue) (events : List Event) → IsAccepted m → IsScriptOf m script → IsLegal m (first m script) events
    → Headline m script events

-- what is said of tracers whose rules are told is one text
abbrev pub AreTold : List Meaning → Type 0
AreTold tracers = (tracer : Meaning) → Contains tracers tracer → tracer.rule ≢ Untold

abbrev pub TalliesAreOne : Type 0
TalliesAreOne =
    (m : Module) (s : State) (events : List Event) (tracers : List Meaning) (text other : List ℕ) → AreTold tracers
    → IsTally (fed_events m s events tracers) text → IsTally (fed_events m s events tracers) other → text ≡ other
