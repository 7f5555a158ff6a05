-- What a failed write leaves of a run: which part of the journal stands in its file beside which part of the trace.
use Rattle.std.specs.Prelude.{◌≡◌, ◌≢◌, ◌⊎◌, ℕ, List, [], ◌++◌, Some}
use Rattle.module_image.specs.Module.{Module}
use Rattle.poke_base.specs.Host.{Outside, Tells, with_file, with_more}
use Rattle.poke_base.specs.Text.{IsPrefix}
use Rattle.recorded_run.specs.Fed.{fed_events}
use Rattle.recorded_run.specs.Running.{IsNext, next_line}
use Rattle.recorded_run.specs.Tally.{IsTally}
use Rattle.recorded_run.specs.Trace.{events_text, trace}
use Rattle.run_journal.specs.declared.event.Event.{Event}
use Rattle.run_journal.specs.Spelling.{header, journal}
use Rattle.switching.specs.State.{State}
use Rattle.tracer_ops.specs.Meaning.{Meaning}
use Rattle.poke_commands.specs.Saying.{Saying}

-- the file is as before or holds a prefix of the header, and nothing was printed
pub record StopsEarly (name : List ℕ) (old new : Outside) : Type 0 where
  pub part : List ℕ
  pub prefix : IsPrefix part header
  pub files : Tells old.files new.files ⊎ Tells (with_file old.files name part) new.files
  pub printed : Tells old.printed new.printed

-- some events were done; then of the next line a prefix was written, or all of it, and then of the next text a prefix printed
pub record StopsBetween (m : Module) (start : State) (events : List Event) (tracers : List Meaning) (name : List ℕ) (old new : Outside) : Type 0 where
  pub done : List Event
  pub rest : List Event
  pub whole : done ++ rest ≡ events
  pub filed : List ℕ
  pub next : List ℕ
  pub text : List ℕ
  pub filed_prefix : IsPrefix filed (next_line rest)
  pub is_next : IsNext m start tracers done rest next
  pub text_prefix : IsPrefix text next
  pub in_order : text ≢ [] → filed ≡ next_line rest
  pub files : Tells (with_file old.files name (journal done ++ filed)) new.files
  pub printed : Tells (with_more old.printed (events_text m start done ++ text)) new.printed

-- the run that is cut is the one that is said
pub record CutsRun (name : List ℕ) (s : Saying) (old new : Outside) : Type 0 where
  pub m : Module
  pub start : State
  pub events : List Event
  pub tracers : List Meaning
  pub tally : List ℕ
  pub is_tally : IsTally (fed_events m start events tracers) tally
  pub text_is : s.text ≡ trace m start events ++ tally
  pub makes_is : s.makes ≡ Some (name, journal events)
  pub stops : StopsEarly name old new ⊎ StopsBetween m start events tracers name old new
