-- What a run leaves: the journal of the events that the choice rule takes, their trace, and the tracers that they feed.
use Rattle.std.specs.Prelude.{◌≡◌, ◌≢◌, ◌⊎◌, ℕ, List, [], ◌∷◌, ◌++◌, Result, Ok, Err}
use Rattle.module_image.specs.Module.{Module}
use Rattle.poke_base.specs.Host.{Outside, Rose}
use Rattle.poke_base.specs.Text.{IsPrefix}
use Rattle.run_journal.specs.declared.event.Event.{Event}
use Rattle.run_journal.specs.Spelling.{event_line, header, journal}
use Rattle.script_text.specs.Script.{ScriptValue}
use Rattle.switching.specs.Choice.{IsChosen, first_chooser}
use Rattle.switching.specs.Journal.{IsLegal, after}
use Rattle.switching.specs.State.{State, first}
use Rattle.tracer_ops.specs.Meaning.{Meaning}
use Rattle.tracer_ops.specs.Tracers.{AreAs}
use Rattle.recorded_run.specs.declared.fault.RunFault.{RunFault}
use Rattle.recorded_run.specs.declared.fault.RunFault.TheVariants.{Write, Line}
use Rattle.recorded_run.specs.Fed.{fed_events}
use Rattle.recorded_run.specs.Headline.{Headline}
use Rattle.recorded_run.specs.Puts.{Puts}
use Rattle.recorded_run.specs.Tally.{IsTally}
use Rattle.recorded_run.specs.Trace.{event_text, events_text, sites_text, trace}

-- these are the events that the choice rule takes by a seed, and they are legal
pub record IsRun (m : Module) (script : ScriptValue) (seed : ℕ) (events : List Event) : Type 0 where
  pub chosen : IsChosen m (first_chooser m script seed) events
  pub legal : IsLegal m (first m script) events

-- the line of the next event, and what it shows; after the last one what the sites hold, and the tallies
abbrev pub next_line : List Event → List ℕ
next_line [] = []
next_line (e ∷ rest) = event_line e

abbrev pub IsNext : Module → State → List Meaning → List Event → List Event → List ℕ → Type 0
IsNext m s tracers done [] text = (tally : List ℕ) × IsTally (fed_events m s done tracers) tally × (text ≡ sites_text m (after m s done) ++ tally)
IsNext m s tracers done (e ∷ rest) text = text ≡ event_text m (after m s done) e

-- of the header a prefix was appended, nothing was printed, and no tracer was told
pub record HeaderIsCut (tracers left : List Meaning) (old new : Outside) : Type 0 where
  pub part : List ℕ
  pub prefix : IsPrefix part header
  pub untold : left ≡ tracers
  pub puts : Puts old new part []

-- some events were done, and the tracers were told of them; then of the next line a prefix was appended, or all of it, and then
-- of the next text a prefix printed
pub record IsCut (m : Module) (s : State) (events : List Event) (tracers left : List Meaning) (old new : Outside) : Type 0 where
  pub done : List Event
  pub rest : List Event
  pub whole : done ++ rest ≡ events
  pub filed : List ℕ
  pub next : List ℕ
  pub text : List ℕ
  pub filed_prefix : IsPrefix filed (next_line rest)
  pub is_next : IsNext m s tracers done rest next
  pub text_prefix : IsPrefix text next
  pub in_order : text ≢ [] → filed ≡ next_line rest
  pub fed : AreAs left (fed_events m s done tracers).left
  pub puts : Puts old new (journal done ++ filed) (events_text m s done ++ text)

-- the file holds the journal of the events, their trace was printed with the tallies behind it, and the tracers were told of all
pub record RunsWhole (m : Module) (script : ScriptValue) (seed : ℕ) (tracers left : List Meaning) (old new : Outside) : Type 0 where
  pub events : List Event
  pub run : IsRun m script seed events
  pub headline : Headline m script events
  pub tally : List ℕ
  pub is_tally : IsTally (fed_events m (first m script) events tracers) tally
  pub fed : AreAs left (fed_events m (first m script) events tracers).left
  pub puts : Puts old new (journal events) (trace m (first m script) events ++ tally)

-- a write failed
pub record RunsPart (m : Module) (script : ScriptValue) (seed : ℕ) (tracers left : List Meaning) (old new : Outside) : Type 0 where
  pub events : List Event
  pub run : IsRun m script seed events
  pub cut : HeaderIsCut tracers left old new ⊎ IsCut m (first m script) events tracers left old new
  pub failed : Rose old.write_faults new.write_faults

abbrev pub RunDoes : Module → ScriptValue → ℕ → List Meaning → List Meaning → Outside → Outside → Result (Unit {0}) RunFault → Type 0
RunDoes m script seed tracers left old new (Ok done) = RunsWhole m script seed tracers left old new
RunDoes m script seed tracers left old new (Err Write) = RunsPart m script seed tracers left old new
RunDoes m script seed tracers left old new (Err (Line line)) = ⊥
