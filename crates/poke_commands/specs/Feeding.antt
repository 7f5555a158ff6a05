-- What the program makes of the tracers that it is handed.
use Rattle.std.specs.Prelude.{◌≡◌, ◌⊎◌, ◌≤◌, ℕ, List, ◌++◌, length, Option, Some, None, Result, Ok, Err}
use Rattle.poke_base.specs.Host.{Outside, Tells, with_more}
use Rattle.poke_base.specs.Text.{IsPrefix}
use Rattle.recorded_run.specs.Fed.{fed_events}
use Rattle.recorded_run.specs.Replaying.{IsNextText, IsRefusedAt, ReadsLegal}
use Rattle.recorded_run.specs.Running.{IsRun}
use Rattle.recorded_run.specs.Trace.{events_text}
use Rattle.run_journal.specs.ReaderState.{ReaderState}
use Rattle.switching.specs.State.{first}
use Rattle.tracer_ops.specs.Meaning.{Meaning}
use Rattle.tracer_ops.specs.Tracers.{AreAs}
use Rattle.poke_faults.specs.declared.fault.Fault.{Fault}
use Rattle.poke_faults.specs.declared.fault.Fault.TheVariants.{Refused, Write}
use Rattle.poke_faults.specs.declared.fault.Refusal.TheVariants.{Journal}
use Rattle.poke_faults.specs.declared.journal_fault.JournalRefused.TheVariants.{Line}
use Rattle.poke_commands.specs.Command as command
use Rattle.poke_commands.specs.Command.{Row}
use Rattle.poke_commands.specs.Headline.{AnyRun, HoldsInputs, IsReadFrom, IsWritten, PrintsTrace}
use Rattle.poke_commands.specs.Journal.{journal_limit}
use Rattle.poke_commands.specs.RunCuts.{StopsBetween, StopsEarly}
use Rattle.poke_commands.specs.Runs.{Ends}
use Rattle.poke_commands.specs.Saying.{Holds, told_before}

-- the tracers that are left are as the hits and drops of a run's events leave them
abbrev pub AreFed : AnyRun → List Meaning → List Meaning → Type 0
AreFed r tracers left = AreAs left (fed_events r.m (first r.m r.script) r.events tracers).left

-- a run was shown to its end
pub record FeedsWhole (r : AnyRun) (tracers left : List Meaning) (old new : Outside) : Type 0 where
  pub prints : PrintsTrace r tracers old new
  pub fed : AreFed r tracers left

-- a write failed: no tracer was told of anything, or they were told of the events that stand whole in the journal's file and were
-- shown
pub record FeedsFirst (journal_file : List ℕ) (r : AnyRun) (tracers left : List Meaning) (old new : Outside) : Type 0 where
  pub stops : StopsBetween r.m (first r.m r.script) r.events tracers journal_file old new
  pub fed : AreAs left (fed_events r.m (first r.m r.script) stops.done tracers).left

abbrev pub FeedsPart : List ℕ → AnyRun → List Meaning → List Meaning → Outside → Outside → Type 0
FeedsPart journal_file r tracers left old new =
    (StopsEarly journal_file old new × (left ≡ tracers)) ⊎ FeedsFirst journal_file r tracers left old new

-- `run`
pub record RunsWith (module_file script_file journal_file : List ℕ) (seed : ℕ) (tracers left : List Meaning) (old new : Outside) : Type 0 where
  pub r : AnyRun
  pub inputs : HoldsInputs (told_before old new) module_file script_file r
  pub written : IsWritten journal_file seed r old new
  pub feeds : FeedsWhole r tracers left old new

pub record IsCutWith (module_file script_file journal_file : List ℕ) (seed : ℕ) (tracers left : List Meaning) (old new : Outside) : Type 0 where
  pub r : AnyRun
  pub inputs : HoldsInputs (told_before old new) module_file script_file r
  pub run : IsRun r.m r.script seed r.events
  pub feeds : FeedsPart journal_file r tracers left old new

abbrev pub RunFeeds : List ℕ → List ℕ → List ℕ → ℕ → List Meaning → List Meaning → Outside → Outside → Result (Unit {0}) Fault → Type 0
RunFeeds module_file script_file journal_file seed tracers left old new (Ok done) = RunsWith module_file script_file journal_file seed tracers left old new
RunFeeds module_file script_file journal_file seed tracers left old new (Err Write) = IsCutWith module_file script_file journal_file seed tracers left old new
RunFeeds module_file script_file journal_file seed tracers left old new (Err _) = left ≡ tracers

-- `replay`
pub record ReplaysWith (module_file script_file journal_file : List ℕ) (tracers left : List Meaning) (old new : Outside) : Type 0 where
  pub r : AnyRun
  pub inputs : HoldsInputs (told_before old new) module_file script_file r
  pub read : IsReadFrom (told_before old new) journal_file r
  pub feeds : FeedsWhole r tracers left old new

-- the journal was refused at a line: they were told of the events before it
pub record StopsWith (module_file script_file journal_file : List ℕ) (line : ℕ) (tracers left : List Meaning) (old new : Outside) : Type 0 where
  pub r : AnyRun
  pub inputs : HoldsInputs (told_before old new) module_file script_file r
  pub bytes : List ℕ
  pub holds : Holds (told_before old new) journal_file bytes
  pub refused : IsRefusedAt r.m (first r.m r.script) bytes r.events line
  pub fed : AreFed r tracers left

-- a print failed: they were told of some first events, and of what is printed next a prefix was
pub record BeginsWith (module_file script_file journal_file : List ℕ) (tracers left : List Meaning) (old new : Outside) : Type 0 where
  pub r : AnyRun
  pub inputs : HoldsInputs (told_before old new) module_file script_file r
  pub bytes : List ℕ
  pub holds : Holds (told_before old new) journal_file bytes
  pub reader : ReaderState
  pub before : ReadsLegal r.m (first r.m r.script) bytes r.events reader
  pub next : List ℕ
  pub is_next : IsNextText r.m (first r.m r.script) bytes tracers r.events reader next
  pub part : List ℕ
  pub prefix : IsPrefix part next
  pub printed : Tells (with_more old.printed (events_text r.m (first r.m r.script) r.events ++ part)) new.printed
  pub fed : AreFed r tracers left

abbrev pub ReplayFeeds : List ℕ → List ℕ → List ℕ → List Meaning → List Meaning → Outside → Outside → Result (Unit {0}) Fault → Type 0
ReplayFeeds module_file script_file journal_file tracers left old new (Ok done) = ReplaysWith module_file script_file journal_file tracers left old new
ReplayFeeds module_file script_file journal_file tracers left old new (Err (Refused (Journal (Line line)))) =
    StopsWith module_file script_file journal_file line tracers left old new
ReplayFeeds module_file script_file journal_file tracers left old new (Err Write) = BeginsWith module_file script_file journal_file tracers left old new
ReplayFeeds module_file script_file journal_file tracers left old new (Err _) = left ≡ tracers

-- `run` and `replay` feed the tracers; no other command touches them, nor do words that are none
abbrev pub Feeds : Option Row → List Meaning → List Meaning → Outside → Outside → Result (Unit {0}) Fault → Type 0
Feeds (Some (command.Run module_file script_file journal_file seed)) tracers left old new result =
    RunFeeds module_file script_file journal_file seed tracers left old new result
Feeds (Some (command.Replay module_file script_file journal_file)) tracers left old new result =
    ReplayFeeds module_file script_file journal_file tracers left old new result
Feeds _ tracers left old new result = left ≡ tracers

-- what the program does to them before a fault is reported
pub record FeedsTracers (words : Option Row) (tracers left : List Meaning) (old new : Outside) (status : ℕ) : Type 0 where
  pub middle : Outside
  pub result : Result (Unit {0}) Fault
  pub feeds : Feeds words tracers left old middle result
  pub ends : Ends middle new result status
