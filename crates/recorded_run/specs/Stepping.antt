-- What a run leaves event by event, before its end is printed.
use Rattle.std.specs.Prelude.{◌≡◌, ◌≢◌, ◌≤◌, ℕ, ◌+◌, min, List, [], ◌∷◌, ◌++◌, length, Result, Ok, Err}
use Rattle.std.specs.List.{flat_map}
use Rattle.module_image.specs.Module.{Module}
use Rattle.poke_base.specs.declared.host.WriteFail.{WriteFail}
use Rattle.poke_base.specs.Host.{Outside, Rose}
use Rattle.poke_base.specs.Text.{IsPrefix}
use Rattle.run_journal.specs.declared.event.Event.{Event}
use Rattle.run_journal.specs.Laws.{HasLine}
use Rattle.run_journal.specs.Spelling.{event_line}
use Rattle.script_runner.specs.Operations.{operations}
use Rattle.script_runner.specs.World.{StandsFor, WorldSeen}
use Rattle.script_text.specs.Script.{ScriptValue}
use Rattle.switching.specs.Choice.{IsChosen, first_chooser, idle_after, most_idle}
use Rattle.switching.specs.Journal.{after}
use Rattle.switching.specs.May.{May}
use Rattle.switching.specs.Next.{next}
use Rattle.switching.specs.Said.{said}
use Rattle.switching.specs.State.{State, first}
use Rattle.tracer_ops.specs.Meaning.{Meaning}
use Rattle.tracer_ops.specs.Tracers.{AreAs}
use Rattle.recorded_run.specs.declared.tracing.Dropped.{Dropped}
use Rattle.recorded_run.specs.Fed.{Fed, IsFed, fed, fed_events}
use Rattle.recorded_run.specs.Puts.{Puts}
use Rattle.recorded_run.specs.Shown.{places}
use Rattle.recorded_run.specs.Trace.{event_text, events_text}

-- the tracers that a run has, and its drops so far
pub record Tracing : Type 0 where
  pub tracers : List Meaning
  pub drops : List Dropped

abbrev pub Feeds : Fed → Tracing → Type 0
Feeds f t = IsFed f t.tracers t.drops

-- an event that may come, that has a line, and for whose drop there is room
pub record CanDo (w : WorldSeen) (e : Event) (drops : List Dropped) : Type 0 where
  pub state : State
  pub stands : StandsFor w state
  pub may : May w.image state e
  pub has_line : HasLine e
  pub room : length drops + length (places (said w.image state e)) ≤ 64

-- its line was appended, it was done, what it shows was printed, and the tracers were told
pub record DoesEvent (w : WorldSeen) (e : Event) (v : WorldSeen) (was now : Tracing) (old new : Outside) : Type 0 where
  pub image : v.image ≡ w.image
  pub idle : v.idle ≡ min (idle_after e w.idle) most_idle
  pub stands : (s : State) → StandsFor w s → StandsFor v (next w.image s e)
  pub fed : (s : State) (f : Fed) → StandsFor w s → Feeds f was → Feeds (fed f (operations w.image (said w.image s e))) now
  pub puts : (s : State) → StandsFor w s → Puts old new (event_line e) (event_text w.image s e)

-- a write failed: a prefix of its line was appended, or all of it, and then a prefix of what it shows was printed; no tracer
-- was told
pub record CutsEvent (w : WorldSeen) (e : Event) (was now : Tracing) (old new : Outside) : Type 0 where
  pub filed : List ℕ
  pub text : List ℕ
  pub filed_prefix : IsPrefix filed (event_line e)
  pub text_prefix : (s : State) → StandsFor w s → IsPrefix text (event_text w.image s e)
  pub in_order : text ≢ [] → filed ≡ event_line e
  pub puts : Puts old new filed text
  pub untold : now ≡ was
  pub failed : Rose old.write_faults new.write_faults

abbrev pub RecordsEvent : WorldSeen → Event → WorldSeen → Tracing → Tracing → Outside → Outside → Result (Unit {0}) WriteFail → Type 0
RecordsEvent w e v was now old new (Ok done) = DoesEvent w e v was now old new
RecordsEvent w e v was now old new (Err why) = CutsEvent w e was now old new

-- the events that the rule takes by a seed were done, to the end of the script
pub record EventsDone (m : Module) (script : ScriptValue) (seed : ℕ) (tracers : List Meaning) (v : WorldSeen) (now : Tracing) (old new : Outside) : Type 0 where
  pub events : List Event
  pub chosen : IsChosen m (first_chooser m script seed) events
  pub image : v.image ≡ m
  pub stands : StandsFor v (after m (first m script) events)
  pub fed : Feeds (fed_events m (first m script) events tracers) now
  pub puts : Puts old new (flat_map event_line events) (events_text m (first m script) events)

-- a write failed at one of them
pub record EventsCut (m : Module) (script : ScriptValue) (seed : ℕ) (tracers left : List Meaning) (old new : Outside) : Type 0 where
  pub done : List Event
  pub event : Event
  pub rest : List Event
  pub chosen : IsChosen m (first_chooser m script seed) (done ++ event ∷ rest)
  pub filed : List ℕ
  pub text : List ℕ
  pub filed_prefix : IsPrefix filed (event_line event)
  pub text_prefix : IsPrefix text (event_text m (after m (first m script) done) event)
  pub in_order : text ≢ [] → filed ≡ event_line event
  pub fed : AreAs left (fed_events m (first m script) done tracers).left
  pub puts : Puts old new (flat_map event_line done ++ filed) (events_text m (first m script) done ++ text)
  pub failed : Rose old.write_faults new.write_faults

abbrev pub RecordsEvents : Module → ScriptValue → ℕ → List Meaning → WorldSeen → Tracing → Outside → Outside → Result (Unit {0}) WriteFail → Type 0
RecordsEvents m script seed tracers v now old new (Ok done) = EventsDone m script seed tracers v now old new
RecordsEvents m script seed tracers v now old new (Err why) = EventsCut m script seed tracers now.tracers old new
