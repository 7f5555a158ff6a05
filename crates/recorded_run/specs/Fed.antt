-- What the events of a run make of the tracers that a caller hands in.
use Rattle.std.specs.Prelude.{◌≡◌, ⊤, ℕ, List, [], ◌∷◌, ◌++◌, Option, Some, None, slice_get}
use Rattle.module_image.specs.Module.{Module}
use Rattle.run_journal.specs.declared.event.Event.{Event}
use Rattle.script_runner.specs.Operations.{Operation, operations}
use Rattle.script_runner.specs.Operations.Operation.{Hits, DropsAt}
use Rattle.switching.specs.Journal.{lines}
use Rattle.switching.specs.State.{State}
use Rattle.tracer_ops.specs.Meaning.{IsTotal, Meaning}
use Rattle.tracer_ops.specs.Tracers.{AreAs, all_hit, without}
use Rattle.recorded_run.specs.declared.tracing.Dropped.{Dropped}

-- the tracers that are left, and of each drop its place with the tracer that it took out, if one was there
pub record Fed : Type 0 where
  pub left : List Meaning
  pub drops : List (ℕ × Option Meaning)

-- before the first event
abbrev pub handed : List Meaning → Fed
handed tracers = record { left = tracers; drops = [] }

-- a hit is told to each tracer that is there; a drop takes out the one at its place, and those after it close up
abbrev pub fed_by : Fed → Operation → Fed
fed_by f (Hits cpu site) = record f { left = all_hit site f.left }
fed_by f (DropsAt place) = record { left = without place f.left; drops = f.drops ++ (place, slice_get f.left place) ∷ [] }

abbrev pub fed : Fed → List Operation → Fed
fed f [] = f
fed f (operation ∷ rest) = fed (fed_by f operation) rest

-- the hits and drops of events, one after the other
abbrev pub fed_events : Module → State → List Event → List Meaning → Fed
fed_events m s events tracers = fed (handed tracers) (operations m (lines m s events))

-- what a drop answers: what the tracer had counted that it took out, or that none was there
abbrev pub IsAnswer : Option Meaning → Option ℕ → Type 0
IsAnswer None None = ⊤
IsAnswer None (Some total) = ⊥
IsAnswer (Some tracer) None = ⊥
IsAnswer (Some tracer) (Some total) = IsTotal tracer total

abbrev pub AreAnswers : List (ℕ × Option Meaning) → List Dropped → Type 0
AreAnswers [] [] = ⊤
AreAnswers (drop ∷ drops) (answer ∷ answers) = (answer.place ≡ drop.0) × IsAnswer drop.1 answer.total × AreAnswers drops answers
AreAnswers [] (answer ∷ answers) = ⊥
AreAnswers (drop ∷ drops) [] = ⊥

-- tracers and the answers of drops are as expected, but for the numbers of tracers whose rule isn't told
pub record IsFed (f : Fed) (tracers : List Meaning) (answers : List Dropped) : Type 0 where
  pub left : AreAs tracers f.left
  pub drops : AreAnswers f.drops answers
