-- What a replay has done at every moment of it.
use Rattle.std.specs.Prelude.{◌≡◌, ℕ, List, [], Result, Ok, Err}
use Rattle.module_image.specs.Module.{Module}
use Rattle.poke_base.specs.Host.{Outside}
use Rattle.run_journal.specs.declared.event.Event.{Event}
use Rattle.run_journal.specs.ReaderState.{ReaderState}
use Rattle.script_runner.specs.World.{StandsFor, WorldSeen}
use Rattle.switching.specs.Journal.{after}
use Rattle.switching.specs.State.{State}
use Rattle.tracer_ops.specs.Meaning.{Meaning}
use Rattle.recorded_run.specs.declared.fault.RunFault.{RunFault}
use Rattle.recorded_run.specs.declared.fault.RunFault.TheVariants.{Write, Line}
use Rattle.recorded_run.specs.Fed.{fed_events}
use Rattle.recorded_run.specs.Puts.{Puts}
use Rattle.recorded_run.specs.Replaying.{IsReplayed, ReadsLegal, ReplaysPart, ReplaysTo}
use Rattle.recorded_run.specs.Stepping.{Feeds, Tracing}
use Rattle.recorded_run.specs.Trace.{events_text}

-- a machine that was in a state has done events, and told the tracers that it had of them
pub record HasDone (m : Module) (s : State) (events : List Event) (tracers : List Meaning) (now : WorldSeen) (tracing : Tracing) : Type 0 where
  pub image : now.image ≡ m
  pub stands : StandsFor now (after m s events)
  pub fed : Feeds (fed_events m s events tracers) tracing

-- events were read of a text and done, and what they show was printed
pub record IsUnderway (m : Module) (s : State) (text : List ℕ) (tracers : List Meaning) (reader : ReaderState) (now : WorldSeen) (tracing : Tracing) (old new : Outside) : Type 0 where
  pub events : List Event
  pub before : ReadsLegal m s text events reader
  pub done : HasDone m s events tracers now tracing
  pub puts : Puts old new [] (events_text m s events)

-- they are the events of the whole text, and the script is finished
pub record HasReplayed (m : Module) (s : State) (text : List ℕ) (tracers : List Meaning) (now : WorldSeen) (tracing : Tracing) (old new : Outside) : Type 0 where
  pub events : List Event
  pub is : IsReplayed m s text events
  pub done : HasDone m s events tracers now tracing
  pub puts : Puts old new [] (events_text m s events)

-- what is done of a text to its end
abbrev pub ReplaysEvents : Module → State → List ℕ → List Meaning → WorldSeen → Tracing → Outside → Outside → Result (Unit {0}) RunFault → Type 0
ReplaysEvents m s text tracers now tracing old new (Ok done) = HasReplayed m s text tracers now tracing old new
ReplaysEvents m s text tracers now tracing old new (Err Write) = ReplaysPart m s text tracers tracing.tracers old new
ReplaysEvents m s text tracers now tracing old new (Err (Line line)) = ReplaysTo m s text line tracers tracing.tracers old new
