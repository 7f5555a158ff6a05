-- What comes of a script of a module that is run, replayed or printed, by the fault of the command.
use Rattle.std.specs.Prelude.{◌≡◌, ◌⊎◌, ℕ, List, Result, Ok, Err}
use Rattle.module_image.specs.Module.{Module}
use Rattle.poke_base.specs.declared.host.WriteFail.{WriteFail}
use Rattle.poke_base.specs.Host.{MakesFile, Outside, Prints}
use Rattle.recorded_run.specs.declared.fault.RunFault.{RunFault}
use Rattle.recorded_run.specs.declared.fault.RunFault.TheVariants.{Write as WriteStop}
use Rattle.recorded_run.specs.Replaying.{ReplayDoes}
use Rattle.recorded_run.specs.Running.{RunDoes}
use Rattle.script_text.specs.Script.{ScriptValue}
use Rattle.tracer_ops.specs.Meaning.{Meaning}
use Rattle.poke_faults.specs.declared.fault.Fault.{Fault}
use Rattle.poke_faults.specs.declared.fault.Fault.TheVariants.{Memory, Write}
use Rattle.poke_faults.specs.RunFault.{run_fault}

-- the journal was made, and the script ran
pub record RunsScript (m : Module) (script : ScriptValue) (journal_file : List ℕ) (seed : ℕ) (tracers left : List Meaning) (old new : Outside) (result : Result (Unit {0}) RunFault) : Type 0 where
  pub made : Outside
  pub makes : MakesFile {T = Unit {0}} {E = WriteFail} old made journal_file (Ok tt)
  pub runs : RunDoes m script seed tracers left made new result

-- the journal wasn't made, and no tracer was told
pub record HasNoJournal (journal_file : List ℕ) (tracers left : List Meaning) (old new : Outside) : Type 0 where
  pub why : WriteFail
  pub makes : MakesFile {T = Unit {0}} {E = WriteFail} old new journal_file (Err why)
  pub untold : left ≡ tracers

abbrev pub RunsAs : Module → ScriptValue → List ℕ → ℕ → List Meaning → List Meaning → Outside → Outside → Result (Unit {0}) Fault → Type 0
RunsAs m script journal_file seed tracers left old new (Ok done) = RunsScript m script journal_file seed tracers left old new (Ok tt)
RunsAs m script journal_file seed tracers left old new (Err Write) =
    HasNoJournal journal_file tracers left old new ⊎ RunsScript m script journal_file seed tracers left old new (Err WriteStop)
RunsAs m script journal_file seed tracers left old new (Err Memory) = (new ≡ old) × (left ≡ tracers)
RunsAs m script journal_file seed tracers left old new (Err _) = ⊥

-- the journal was refused at a line, or a print failed
pub record StopsScript (m : Module) (script : ScriptValue) (text : List ℕ) (tracers left : List Meaning) (old new : Outside) (fault : Fault) : Type 0 where
  pub why : RunFault
  pub replays : ReplayDoes m script text tracers left old new (Err why)
  pub is : fault ≡ run_fault why

abbrev pub ReplaysAs : Module → ScriptValue → List ℕ → List Meaning → List Meaning → Outside → Outside → Result (Unit {0}) Fault → Type 0
ReplaysAs m script text tracers left old new (Ok done) = ReplayDoes m script text tracers left old new (Ok tt)
ReplaysAs m script text tracers left old new (Err Memory) = (new ≡ old) × (left ≡ tracers)
ReplaysAs m script text tracers left old new (Err fault) = StopsScript m script text tracers left old new fault

-- one of these texts was printed, or a prefix of it
pub record PrintsSome (IsText : List ℕ → Type 0) (old new : Outside) (result : Result (Unit {0}) WriteFail) : Type 0 where
  pub text : List ℕ
  pub is : IsText text
  pub prints : Prints old new text result

-- the same by the fault of a command, which may have lacked memory before
abbrev pub PrintsAs : (List ℕ → Type 0) → Outside → Outside → Result (Unit {0}) Fault → Type 0
PrintsAs IsText old new (Ok done) = PrintsSome IsText old new (Ok tt)
PrintsAs IsText old new (Err Write) = (why : WriteFail) × PrintsSome IsText old new (Err why)
PrintsAs IsText old new (Err Memory) = new ≡ old
PrintsAs IsText old new (Err _) = ⊥
