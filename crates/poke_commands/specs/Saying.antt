-- What the files of a command say of what it does.
use Rattle.std.specs.Prelude.{◌≡◌, ◌⊎◌, ◌<◌, ◌≤◌, ℕ, List, [], ◌++◌, length, Option, Some, None, Result, Ok, Err}
use Rattle.std.specs.FinMap.{get}
use Rattle.poke_base.specs.Host.{Files, Outside}
use Rattle.insn_forms.specs.declared.forms.Change.{Change}
use Rattle.elf_build.specs.declared.plan.Plan.{Plan}
use Rattle.elf_build.specs.File.{file_of}
use Rattle.elf_build.specs.Generated.{IsGenerated}
use Rattle.bench_run.specs.declared.counts.Counts.{Counts}
use Rattle.bench_run.specs.Bench.{IsBench}
use Rattle.module_image.specs.Module.{Module}
use Rattle.recorded_run.specs.Fed.{fed_events}
use Rattle.recorded_run.specs.Replaying.{IsNextText, IsRefusedAt, IsReplayed, ReadsLegal}
use Rattle.recorded_run.specs.Running.{IsRun}
use Rattle.recorded_run.specs.Tally.{IsTally}
use Rattle.recorded_run.specs.Trace.{events_text, trace}
use Rattle.run_journal.specs.declared.event.Event.{Event}
use Rattle.run_journal.specs.ReaderState.{ReaderState}
use Rattle.run_journal.specs.Spelling.{journal}
use Rattle.switching.specs.State.{first}
use Rattle.tracer_ops.specs.Meaning.{Meaning}
use Rattle.poke_faults.specs.declared.fault.Refusal.{Refusal}
use Rattle.poke_faults.specs.declared.fault.Refusal.TheVariants.{Module as ModuleRefusal, Plan as PlanRefusal, Script as ScriptRefusal, Journal as JournalRefusal}
use Rattle.poke_faults.specs.declared.journal_fault.JournalRefused.TheVariants.{TooLong as LongJournal, Line as JournalLine}
use Rattle.poke_faults.specs.declared.module_fault.ModuleRefused.{ModuleRefused}
use Rattle.poke_plan.specs.declared.plan_line.PlanRefused.{PlanRefused}
use Rattle.script_text.specs.Script.{ScriptValue}
use Rattle.poke_faults.specs.declared.script_fault.ScriptRefused.{ScriptRefused}
use Rattle.poke_commands.specs.BenchText.{bench_text}
use Rattle.poke_commands.specs.Check.{Accepts, RefusesModule, accepted_text}
use Rattle.poke_commands.specs.Command as command
use Rattle.poke_commands.specs.Command.{Row}
use Rattle.poke_faults.specs.Fault.{refusal_status}
use Rattle.poke_commands.specs.Journal.{journal_limit}
use Rattle.poke_commands.specs.Live.{IsLiveText}
use Rattle.poke_commands.specs.Module.{ModuleShows}
use Rattle.poke_plan.specs.Plan.{poke_text}
use Rattle.poke_plan.specs.PlanLine.{PokeLine}
use Rattle.poke_commands.specs.Script.{AcceptsScript, RefusesScript}
use Rattle.poke_commands.specs.Wants.{IsWantsText}

-- what a command's files say: what is printed, the file that is made with what it then holds, why the command is
-- refused after that, if it is, and how many of its file words it asks for
pub record Saying : Type 0 where
  pub text : List ℕ
  pub makes : Option (List ℕ × List ℕ)
  pub refused : Option Refusal
  pub asks : ℕ

-- a text is printed
abbrev pub says_text : ℕ → List ℕ → Saying
says_text n text = record { text = text; makes = None; refused = None; asks = n }

-- a file is made
abbrev pub says_file : ℕ → List ℕ → List ℕ → Saying
says_file n name bytes = record { text = []; makes = Some (name, bytes); refused = None; asks = n }

-- the command is refused, and nothing is printed or made before
abbrev pub refuses : ℕ → Refusal → Saying
refuses n why = record { text = []; makes = None; refused = Some why; asks = n }

-- the status of a command where no read and no write fails and there is memory
abbrev pub refused_status : Option Refusal → ℕ
refused_status None = 0
refused_status (Some why) = refusal_status why

abbrev pub saying_status : Saying → ℕ
saying_status s = refused_status s.refused

-- the files as they were before, where they are still told after
abbrev pub where_told : Option Files → Option Files → Option Files
where_told before None = None
where_told before (Some after) = before

abbrev pub told_before : Outside → Outside → Option Files
told_before old new = where_told old.files new.files

-- a file holds these bytes, where the files are told
abbrev pub Holds : Option Files → List ℕ → List ℕ → Type 0
Holds told name bytes = (files : Files) → told ≡ Some files → get files name ≡ Some bytes

-- a file says this by the bytes that it holds
abbrev pub FileSays : (List ℕ → Saying → Type 0) → Option Files → List ℕ → Saying → Type 0
FileSays P told name s = (bytes : List ℕ) × Holds told name bytes × P bytes s

-- bytes say this as a module: why they aren't accepted as one, or what that module says
abbrev pub ModuleSays : (Module → Saying → Type 0) → List ℕ → Saying → Type 0
ModuleSays P bytes s =
    ((why : ModuleRefused) × RefusesModule bytes why × (s ≡ refuses 1 (ModuleRefusal why)))
    ⊎ ((m : Module) × Accepts bytes m × P m s)

-- bytes say this as a script of a module, the second file of a command: why they aren't accepted as one, or what that script says
abbrev pub ScriptSays : (Module → ScriptValue → Saying → Type 0) → Module → List ℕ → Saying → Type 0
ScriptSays P m bytes s =
    ((why : ScriptRefused) × RefusesScript m bytes why × (s ≡ refuses 2 (ScriptRefusal why)))
    ⊎ ((script : ScriptValue) × AcceptsScript m bytes script × P m script s)

-- what a plan file says: the poke of its change, or why it is refused
abbrev pub plan_saying : Result Change PlanRefused → Saying
plan_saying (Ok change) = says_text 1 (poke_text change)
plan_saying (Err why) = refuses 1 (PlanRefusal why)

abbrev pub PlanSays : List ℕ → Saying → Type 0
PlanSays bytes s = (read : Result Change PlanRefused) × PokeLine bytes read × (s ≡ plan_saying read)

-- what is shown of a file: the entries of its tables, or why it is refused
abbrev pub show_saying : Result (List ℕ) ModuleRefused → Saying
show_saying (Ok text) = says_text 1 text
show_saying (Err why) = refuses 1 (ModuleRefusal why)

abbrev pub ShowSays : List ℕ → Saying → Type 0
ShowSays bytes s = (shown : Result (List ℕ) ModuleRefused) × ModuleShows bytes shown × (s ≡ show_saying shown)

-- what is printed of an accepted module: its text and sites
abbrev pub CheckSays : Module → Saying → Type 0
CheckSays m s = s ≡ says_text 1 (accepted_text m.base m.text m.sites)

-- the bytes are those of the module with n blocks
pub record IsModuleOf (n : ℕ) (bytes : List ℕ) : Type 0 where
  pub plan : Plan
  pub generated : IsGenerated n plan
  pub bytes_are : bytes ≡ file_of plan

-- `make` reads no file, and makes the one with the module of n blocks
abbrev pub MakeSays : ℕ → List ℕ → Saying → Type 0
MakeSays n name s = (bytes : List ℕ) × IsModuleOf n bytes × (s ≡ says_file 1 name bytes)

-- what is printed of a script of an accepted module: how its updates end, and what the sites then hold
abbrev pub WantsSays : Module → ScriptValue → Saying → Type 0
WantsSays m script s = (printed : List ℕ) × IsWantsText m script printed × (s ≡ says_text 2 printed)

-- a text is printed, and a file made
abbrev pub says_both : ℕ → List ℕ → List ℕ → List ℕ → Saying
says_both n text name bytes = record { text = text; makes = Some (name, bytes); refused = None; asks = n }

-- what `run` says of a script of an accepted module: the events that the seed chooses, their trace, what became of some tracers,
-- and the journal
pub record RunSays (journal_file : List ℕ) (seed : ℕ) (m : Module) (script : ScriptValue) (s : Saying) : Type 0 where
  pub events : List Event
  pub run : IsRun m script seed events
  pub tracers : List Meaning
  pub tally : List ℕ
  pub is_tally : IsTally (fed_events m (first m script) events tracers) tally
  pub is : s ≡ says_both 3 (trace m (first m script) events ++ tally) journal_file (journal events)

-- a journal is refused at a line, after what the events before it show
abbrev pub refuses_line : List ℕ → ℕ → Saying
refuses_line text line = record { text = text; makes = None; refused = Some (JournalRefusal (JournalLine line)); asks = 3 }

-- what bytes say as a journal of a script, the third file of a command: they are too many; or they are refused at a line,
-- after some events; or they are the journal of legal events
pub record StopsAt (m : Module) (script : ScriptValue) (bytes : List ℕ) (s : Saying) : Type 0 where
  pub fits : length bytes ≤ journal_limit
  pub events : List Event
  pub line : ℕ
  pub refused : IsRefusedAt m (first m script) bytes events line
  pub is : s ≡ refuses_line (events_text m (first m script) events) line

pub record Replays (m : Module) (script : ScriptValue) (bytes : List ℕ) (s : Saying) : Type 0 where
  pub fits : length bytes ≤ journal_limit
  pub events : List Event
  pub replayed : IsReplayed m (first m script) bytes events
  pub tracers : List Meaning
  pub tally : List ℕ
  pub is_tally : IsTally (fed_events m (first m script) events tracers) tally
  pub is : s ≡ says_text 3 (trace m (first m script) events ++ tally)

abbrev pub IsTooLong : List ℕ → Saying → Type 0
IsTooLong bytes s = (journal_limit < length bytes) × (s ≡ refuses 3 (JournalRefusal LongJournal))

abbrev pub JournalSays : Module → ScriptValue → List ℕ → Saying → Type 0
JournalSays m script bytes s = IsTooLong bytes s ⊎ (StopsAt m script bytes s ⊎ Replays m script bytes s)

-- what they say at least, where no more of them is told: what some events show with which they begin, and what is printed next
pub record JournalBegins (m : Module) (script : ScriptValue) (bytes : List ℕ) (s : Saying) : Type 0 where
  pub fits : length bytes ≤ journal_limit
  pub tracers : List Meaning
  pub events : List Event
  pub reader : ReaderState
  pub before : ReadsLegal m (first m script) bytes events reader
  pub next : List ℕ
  pub is_next : IsNextText m (first m script) bytes tracers events reader next
  pub is : s ≡ says_text 3 (events_text m (first m script) events ++ next)

-- what a script of a module says with a journal
abbrev pub WithJournal : (Module → ScriptValue → List ℕ → Saying → Type 0) → Option Files → List ℕ → Module → ScriptValue → Saying → Type 0
WithJournal P told journal_file m script s = FileSays (P m script) told journal_file s

-- what `bench` says: the counts of the run of the module with n blocks
abbrev pub BenchSays : ℕ → ℕ → Saying → Type 0
BenchSays n seed s = (counts : Counts) × IsBench n seed counts × (s ≡ says_text 0 (bench_text n seed counts))

-- what `live` says of a script of an accepted module: how its updates end, what processors did while they were made, and what
-- the sites then hold
abbrev pub LiveSays : ℕ → Module → ScriptValue → Saying → Type 0
LiveSays turns m script s = (printed : List ℕ) × IsLiveText m script turns printed × (s ≡ says_text 2 printed)

-- what a module file says with a script file
abbrev pub WithScript : (Module → ScriptValue → Saying → Type 0) → Option Files → List ℕ → List ℕ → Saying → Type 0
WithScript P told module_file script_file s =
    FileSays (ModuleSays (λ m t. FileSays (ScriptSays P m) told script_file t)) told module_file s

-- what the files of a command say
abbrev pub Says : Row → Option Files → Saying → Type 0
Says (command.Plan file) told s = FileSays PlanSays told file s
Says (command.Show module_file) told s = FileSays ShowSays told module_file s
Says (command.Check module_file) told s = FileSays (ModuleSays CheckSays) told module_file s
Says (command.Make n file) told s = MakeSays n file s
Says (command.Wants module_file script_file) told s = WithScript WantsSays told module_file script_file s
Says (command.Run module_file script_file journal_file seed) told s =
    WithScript (RunSays journal_file seed) told module_file script_file s
Says (command.Replay module_file script_file journal_file) told s =
    WithScript (WithJournal JournalSays told journal_file) told module_file script_file s
Says (command.Bench n seed) told s = BenchSays n seed s
Says (command.Live module_file script_file turns seed) told s = WithScript (LiveSays turns) told module_file script_file s

-- what they say at least, where a write fails
abbrev pub Begins : Row → Option Files → Saying → Type 0
Begins (command.Plan file) told s = Says (command.Plan file) told s
Begins (command.Show file) told s = Says (command.Show file) told s
Begins (command.Check file) told s = Says (command.Check file) told s
Begins (command.Make n file) told s = Says (command.Make n file) told s
Begins (command.Wants module_file script_file) told s = Says (command.Wants module_file script_file) told s
Begins (command.Run module_file script_file journal_file seed) told s =
    Says (command.Run module_file script_file journal_file seed) told s
Begins (command.Replay module_file script_file journal_file) told s =
    WithScript (WithJournal JournalBegins told journal_file) told module_file script_file s
Begins (command.Bench n seed) told s = Says (command.Bench n seed) told s
Begins (command.Live module_file script_file turns seed) told s =
    Says (command.Live module_file script_file turns seed) told s
