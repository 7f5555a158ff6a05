-- The headline, of the program: what is so of the run that `run` and `replay` show.
use Rattle.std.specs.Prelude.{◌≤◌, ℕ, List, ◌++◌, length, Option, Some, None}
use Rattle.module_image.specs.Module.{Module}
use Rattle.poke_base.specs.Host.{Files, Outside, Tells, with_file, with_more}
use Rattle.recorded_run.specs.Fed.{fed_events}
use Rattle.recorded_run.specs.Replaying.{IsReplayed}
use Rattle.recorded_run.specs.Running.{IsRun}
use Rattle.recorded_run.specs.Tally.{IsTally}
use Rattle.recorded_run.specs.Trace.{trace}
use Rattle.run_journal.specs.declared.event.Event.{Event}
use Rattle.run_journal.specs.Spelling.{journal}
use Rattle.script_text.specs.Script.{ScriptValue}
use Rattle.switching.specs.State.{first}
use Rattle.tracer_ops.specs.Meaning.{Meaning}
use Rattle.poke_commands.specs.Check.{Accepts}
use Rattle.poke_commands.specs.Command as command
use Rattle.poke_commands.specs.Command.{Row}
use Rattle.poke_commands.specs.Journal.{journal_limit}
use Rattle.poke_commands.specs.Live.{IsLiveText}
use Rattle.poke_commands.specs.Saying.{Holds, told_before}
use Rattle.poke_commands.specs.Script.{AcceptsScript}

-- a run: a module, a script of it, and events
pub record AnyRun : Type 0 where
  pub m : Module
  pub script : ScriptValue
  pub events : List Event

-- the module's file holds this module, which is accepted, and the script's file this script of it
pub record HoldsInputs (told : Option Files) (module_file script_file : List ℕ) (r : AnyRun) : Type 0 where
  pub module_bytes : List ℕ
  pub holds_module : Holds told module_file module_bytes
  pub accepts : Accepts module_bytes r.m
  pub script_bytes : List ℕ
  pub holds_script : Holds told script_file script_bytes
  pub accepts_script : AcceptsScript r.m script_bytes r.script

-- its journal is written: the events are those that the choice rule takes by the seed, they are legal, and the file that was made
-- holds their journal
pub record IsWritten (journal_file : List ℕ) (seed : ℕ) (r : AnyRun) (old new : Outside) : Type 0 where
  pub run : IsRun r.m r.script seed r.events
  pub journal : Tells (with_file old.files journal_file (journal r.events)) new.files

-- its journal is read: the file holds the journal of the events to its end, and they are legal
pub record IsReadFrom (told : Option Files) (journal_file : List ℕ) (r : AnyRun) : Type 0 where
  pub bytes : List ℕ
  pub holds : Holds told journal_file bytes
  pub fits : length bytes ≤ journal_limit
  pub replayed : IsReplayed r.m (first r.m r.script) bytes r.events

-- it is the run that a command shows
abbrev pub IsRunOf : Row → Outside → Outside → AnyRun → Type 0
IsRunOf (command.Run module_file script_file journal_file seed) old new r =
    HoldsInputs (told_before old new) module_file script_file r × IsWritten journal_file seed r old new
IsRunOf (command.Replay module_file script_file journal_file) old new r =
    HoldsInputs (told_before old new) module_file script_file r × IsReadFrom (told_before old new) journal_file r
IsRunOf _ old new r = ⊥

-- the trace of its events was printed, and behind it what became of the tracers that were handed in
pub record PrintsTrace (r : AnyRun) (tracers : List Meaning) (old new : Outside) : Type 0 where
  pub tally : List ℕ
  pub is_tally : IsTally (fed_events r.m (first r.m r.script) r.events tracers) tally
  pub printed : Tells (with_more old.printed (trace r.m (first r.m r.script) r.events ++ tally)) new.printed

-- the words are those of a command that shows a run
abbrev pub RunsProcessors : Option Row → Type 0
RunsProcessors (Some (command.Run module_file script_file journal_file seed)) = Unit {0}
RunsProcessors (Some (command.Replay module_file script_file journal_file)) = Unit {0}
RunsProcessors _ = ⊥

-- it is the run that these words show
abbrev pub IsShown : Option Row → Outside → Outside → AnyRun → Type 0
IsShown None old new r = ⊥
IsShown (Some row) old new r = IsRunOf row old new r

-- it is shown with some tracers
abbrev pub ShowsRun : Option Row → Outside → Outside → Type 0
ShowsRun words old new = (r : AnyRun) × IsShown words old new r × ((tracers : List Meaning) × PrintsTrace r tracers old new)

-- the walks of a live run were printed: the module's file holds an accepted module, the script's file a script of it, and between
-- the lines of how the updates end and those of the sites stands what each processor did
pub record ShowsLive (module_file script_file : List ℕ) (turns : ℕ) (old new : Outside) : Type 0 where
  pub r : AnyRun
  pub inputs : HoldsInputs (told_before old new) module_file script_file r
  pub text : List ℕ
  pub is : IsLiveText r.m r.script turns text
  pub printed : Tells (with_more old.printed text) new.printed

-- where the words are those of such a run
abbrev pub ShowsWalks : Option Row → Outside → Outside → Type 0
ShowsWalks (Some (command.Live module_file script_file turns seed)) old new = ShowsLive module_file script_file turns old new
ShowsWalks _ old new = Unit {0}
