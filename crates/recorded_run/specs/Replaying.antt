-- What a journal's replay leaves: the trace of its events, or what they show before the first line that can't be; and the tracers
-- that they feed.
use Rattle.std.specs.Prelude.{◌≡◌, ◌⊎◌, ℕ, ◌+◌, List, [], ◌++◌, Result, Ok, Err}
use Rattle.module_image.specs.Module.{Module}
use Rattle.poke_base.specs.Host.{Outside, Rose}
use Rattle.poke_base.specs.Text.{IsPrefix}
use Rattle.run_journal.specs.declared.event.Event.{Event}
use Rattle.run_journal.specs.Journals.{Reads, ReadsWhole}
use Rattle.run_journal.specs.Reading.{IsBad, ReadsEnd, ReadsEvent, at_start}
use Rattle.run_journal.specs.ReaderState.{ReaderState}
use Rattle.script_text.specs.Script.{ScriptValue}
use Rattle.switching.specs.Journal.{IsFinished, IsLegal, IsLegalSoFar, after}
use Rattle.switching.specs.May.{May}
use Rattle.switching.specs.State.{State, first}
use Rattle.tracer_ops.specs.Meaning.{Meaning}
use Rattle.tracer_ops.specs.Tracers.{AreAs}
use Rattle.recorded_run.specs.declared.fault.RunFault.{RunFault}
use Rattle.recorded_run.specs.declared.fault.RunFault.TheVariants.{Write, Line}
use Rattle.recorded_run.specs.Fed.{fed_events}
use Rattle.recorded_run.specs.Headline.{Headline}
use Rattle.recorded_run.specs.Puts.{Puts}
use Rattle.recorded_run.specs.Tally.{IsTally}
use Rattle.recorded_run.specs.Trace.{event_text, events_text, sites_text, trace}

-- events that a text begins with, each of which may come in its place
pub record ReadsLegal (m : Module) (s : State) (text : List ℕ) (events : List Event) (reader : ReaderState) : Type 0 where
  pub reads : Reads (at_start text) events reader
  pub legal : IsLegalSoFar m s events

-- the next event may not come; after the script's end none may
pub record IsNoNext (m : Module) (s : State) (reader : ReaderState) (line : ℕ) : Type 0 where
  pub event : Event
  pub next : ReaderState
  pub reads : ReadsEvent reader next event
  pub not : May m s event → ⊥
  pub line_is : line ≡ next.taken

-- the text ends, and the script isn't finished
pub record IsMissing (s : State) (reader : ReaderState) (line : ℕ) : Type 0 where
  pub end : ReaderState
  pub reads : ReadsEnd reader end
  pub not : IsFinished s → ⊥
  pub line_is : line ≡ end.taken + 1

-- the next line is no event's, or its event may not come, or one is missing
abbrev pub IsRefusedNext : Module → State → ReaderState → ℕ → Type 0
IsRefusedNext m s reader line = IsBad reader (record { line = line }) ⊎ (IsNoNext m s reader line ⊎ IsMissing s reader line)

-- a text is refused at a line, after these events
pub record IsRefusedAt (m : Module) (s : State) (text : List ℕ) (events : List Event) (line : ℕ) : Type 0 where
  pub reader : ReaderState
  pub before : ReadsLegal m s text events reader
  pub refused : IsRefusedNext m (after m s events) reader line

-- a text is the journal of these events, which are legal
pub record IsReplayed (m : Module) (s : State) (text : List ℕ) (events : List Event) : Type 0 where
  pub reads : ReadsWhole text events
  pub legal : IsLegal m s events

-- what is printed next after some events: what the next one shows, or what the sites hold at the end, and the tallies
pub record IsNextEvent (m : Module) (s : State) (reader : ReaderState) (next : List ℕ) : Type 0 where
  pub event : Event
  pub after_it : ReaderState
  pub reads : ReadsEvent reader after_it event
  pub may : May m s event
  pub is : next ≡ event_text m s event

pub record IsEnd (m : Module) (s : State) (text : List ℕ) (tracers : List Meaning) (done : List Event) (next : List ℕ) : Type 0 where
  pub replayed : IsReplayed m s text done
  pub tally : List ℕ
  pub is_tally : IsTally (fed_events m s done tracers) tally
  pub is : next ≡ sites_text m (after m s done) ++ tally

abbrev pub IsNextText : Module → State → List ℕ → List Meaning → List Event → ReaderState → List ℕ → Type 0
IsNextText m s text tracers done reader next = IsNextEvent m (after m s done) reader next ⊎ IsEnd m s text tracers done next

-- the events to the end: their trace was printed with the tallies behind it, and the tracers were told of all
pub record ReplaysWhole (m : Module) (script : ScriptValue) (text : List ℕ) (tracers left : List Meaning) (old new : Outside) : Type 0 where
  pub events : List Event
  pub is : IsReplayed m (first m script) text events
  pub headline : Headline m script events
  pub tally : List ℕ
  pub is_tally : IsTally (fed_events m (first m script) events tracers) tally
  pub fed : AreAs left (fed_events m (first m script) events tracers).left
  pub puts : Puts old new [] (trace m (first m script) events ++ tally)

-- the text is refused: what the events before show was printed, and the tracers were told of them
pub record ReplaysTo (m : Module) (s : State) (text : List ℕ) (line : ℕ) (tracers left : List Meaning) (old new : Outside) : Type 0 where
  pub events : List Event
  pub is : IsRefusedAt m s text events line
  pub fed : AreAs left (fed_events m s events tracers).left
  pub puts : Puts old new [] (events_text m s events)

-- a write failed: some events were done, and the tracers were told of them; of what is printed next a prefix was
pub record ReplaysPart (m : Module) (s : State) (text : List ℕ) (tracers left : List Meaning) (old new : Outside) : Type 0 where
  pub done : List Event
  pub reader : ReaderState
  pub before : ReadsLegal m s text done reader
  pub next : List ℕ
  pub is_next : IsNextText m s text tracers done reader next
  pub part : List ℕ
  pub prefix : IsPrefix part next
  pub fed : AreAs left (fed_events m s done tracers).left
  pub puts : Puts old new [] (events_text m s done ++ part)
  pub failed : Rose old.write_faults new.write_faults

abbrev pub ReplayDoes : Module → ScriptValue → List ℕ → List Meaning → List Meaning → Outside → Outside → Result (Unit {0}) RunFault → Type 0
ReplayDoes m script text tracers left old new (Ok done) = ReplaysWhole m script text tracers left old new
ReplayDoes m script text tracers left old new (Err Write) = ReplaysPart m (first m script) text tracers left old new
ReplayDoes m script text tracers left old new (Err (Line line)) = ReplaysTo m (first m script) text line tracers left old new
