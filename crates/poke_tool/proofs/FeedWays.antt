-- What `run` and `replay` make of the tracers, by the ways through them.
use Rattle.std.proofs.Common.{◌≡◌, ◌++◌, ◌⊎◌, inl, inr, ℕ, List, [], length, Result, Ok, Err, Vec, refl, sym, subst}
use Rattle.std.specs.declared.alloc.Global.{Global}
use Rattle.poke_base.specs.Host.{Outside, Tells, with_more}
use Rattle.poke_base.proofs.Outsides.{Tells-trans}
use Rattle.module_image.specs.Module.{Module}
use Rattle.recorded_run.specs.declared.fault.RunFault.{RunFault}
use Rattle.recorded_run.specs.declared.fault.RunFault.TheVariants.{Write as WriteStop, Line as LineStop}
use Rattle.recorded_run.specs.Puts.{Puts}
use Rattle.recorded_run.specs.Replaying.{ReplayDoes}
use Rattle.recorded_run.specs.Running.{HeaderIsCut, IsCut, IsRun}
use Rattle.recorded_run.specs.Trace.{events_text, trace}
use Rattle.run_journal.specs.declared.event.Event.{Event}
use Rattle.run_journal.specs.Spelling.{journal}
use Rattle.script_text.specs.Script.{ScriptValue}
use Rattle.switching.specs.State.{first}
use Rattle.tracer_ops.specs.Meaning.{Meaning}
use Rattle.poke_faults.specs.declared.fault.Fault.{Fault}
use Rattle.poke_faults.specs.declared.fault.Fault.TheVariants.{Memory, Read, Refused, Words, Write}
use Rattle.poke_faults.specs.declared.fault.Refusal.{Refusal}
use Rattle.poke_faults.specs.declared.fault.Refusal.TheVariants.{Journal, Module as ModuleRefusal, Plan, Script}
use Rattle.poke_faults.specs.declared.journal_fault.JournalRefused.TheVariants.{Line, TooLong}
use Rattle.poke_commands.specs.Check.{Accepts}
use Rattle.poke_commands.specs.Feeding.{IsCutWith, ReplayFeeds, RunFeeds}
use Rattle.poke_commands.specs.Headline.{AnyRun, HoldsInputs}
use Rattle.poke_faults.specs.RunFault.{run_fault}
use Rattle.poke_commands.specs.Runs.{ReadsInput}
use Rattle.poke_commands.specs.Saying.{told_before}
use Rattle.poke_commands.specs.Script.{AcceptsScript}
use Rattle.poke_commands.specs.Scripted.{HasNoJournal, ReplaysAs, RunsAs, RunsScript, StopsScript}
use Rattle.poke_commands.proofs.Asking.{added_later}
use Rattle.poke_tool.proofs.RunWays.{Made, ReadBoth, a_run, filed_now, has_both, holds_both, printed_now, still_made, still_unmade, stops_between, stops_early, unmade_files}
use Rattle.poke_tool.proofs.ThreeFiles.{ReadAll, all_hold, has_all, third_fits, third_holds, unchanged}
use Rattle.poke_commands.proofs.TwoFiles.{BothHold}

-- what the files hold, of a run with these events
inputs : (told_module told_script : List ℕ) (old new : Outside) (m : Module) (script : ScriptValue) (events : List Event) → BothHold (told_before old new) told_module told_script Accepts m (AcceptsScript m) script → HoldsInputs (told_before old new) told_module told_script (record { m = m; script = script; events = events })
inputs told_module told_script old new m script events hold = record {
  module_bytes = hold.bytes;
  holds_module = hold.holds;
  accepts = hold.is;
  script_bytes = hold.text;
  holds_script = hold.holds_too;
  accepts_script = hold.is_too;
}

-- ---- `run`

-- a file that wasn't read, or was refused: no tracer was told
pub run_untold : {T : Type 0} (module_file script_file journal_file : List ℕ) (seed : ℕ) (tracers : List Meaning) (old new before after : Outside) (name : List ℕ) (Is : List ℕ → T → Type 0) (Refuses : List ℕ → Refusal → Type 0) (fault : Fault) → ReadsInput {T = T} before after name Is Refuses (Err fault) → RunFeeds module_file script_file journal_file seed tracers tracers old new (Err fault)
run_untold module_file script_file journal_file seed tracers old new before after name Is Refuses Words reads = refl
run_untold module_file script_file journal_file seed tracers old new before after name Is Refuses (Refused why) reads = refl
run_untold module_file script_file journal_file seed tracers old new before after name Is Refuses Read reads = refl
run_untold module_file script_file journal_file seed tracers old new before after name Is Refuses Write reads = absurd reads.input
run_untold module_file script_file journal_file seed tracers old new before after name Is Refuses Memory reads = refl

-- the script ran, or there was no memory, or its journal wasn't made
pub runs_feed : (module_file script_file journal_file : List ℕ) (seed : ℕ) (old middle between new : Outside) (m : Module) (script : ScriptValue) (tracers left : List Meaning) (result : Result (Unit {0}) Fault) → ReadBoth module_file script_file journal_file seed old middle between m script → RunsAs m script journal_file seed tracers left between new result → RunFeeds module_file script_file journal_file seed tracers left old new result
runs_feed module_file script_file journal_file seed old middle between new m script tracers left result both did = by result did
  where
    made_of : (runs : RunsScript m script journal_file seed tracers left between new (Ok tt)) → Made module_file script_file journal_file seed old middle between runs.made m script
    made_of runs = record { both = both; makes = runs.makes }

    cut_of : (runs : RunsScript m script journal_file seed tracers left between new (Err WriteStop)) → Made module_file script_file journal_file seed old middle between runs.made m script
    cut_of runs = record { both = both; makes = runs.makes }

    held : (made : Outside) (filed text : List ℕ) (events : List Event) → Made module_file script_file journal_file seed old middle between made m script → Puts made new filed text → HoldsInputs (told_before old new) module_file script_file (record { m = m; script = script; events = events })
    held made filed text events h puts =
        inputs module_file script_file old new m script events
        (holds_both module_file script_file journal_file seed old middle between new m script both (still_made module_file script_file journal_file seed old middle between made new m script filed text h puts))

    unmade : HasNoJournal journal_file tracers left between new → IsCutWith module_file script_file journal_file seed tracers left old new
    unmade none =
        let hold = holds_both module_file script_file journal_file seed old middle between new m script both (still_unmade between.files new.files journal_file none.makes.not_made) in
        let some = a_run (told_before old new) module_file script_file m script seed hold in
        record {
          r = record { m = m; script = script; events = some.events };
          inputs = inputs module_file script_file old new m script some.events hold;
          run = some.run;
          feeds = inl (
            record {
              part = [];
              prefix = refl;
              files = unmade_files module_file script_file journal_file seed old middle between new m script both none.makes.not_made;
              printed =
                  Tells-trans old.printed between.printed new.printed
                  (has_both module_file script_file journal_file seed old middle between m script both).leaves.printed none.makes.printed;
            },
            none.untold,
          );
        }

    cut : (made : Outside) (events : List Event) → Made module_file script_file journal_file seed old middle between made m script → IsRun m script seed events → HeaderIsCut tracers left made new ⊎ IsCut m (first m script) events tracers left made new → IsCutWith module_file script_file journal_file seed tracers left old new
    cut made events h run (inl early) = record {
      r = record { m = m; script = script; events = events };
      inputs = held made early.part [] events h early.puts;
      run = run;
      feeds = inl (stops_early module_file script_file journal_file seed old middle between made new m script tracers left h early, early.untold);
    }
    cut made events h run (inr late) = record {
      r = record { m = m; script = script; events = events };
      inputs = held made (journal late.done ++ late.filed) (events_text m (first m script) late.done ++ late.text) events h late.puts;
      run = run;
      feeds = inr (record {
        stops = stops_between module_file script_file journal_file seed old middle between made new m script events tracers left h late;
        fed = late.fed;
      });
    }

    by : (result : Result (Unit {0}) Fault) → RunsAs m script journal_file seed tracers left between new result → RunFeeds module_file script_file journal_file seed tracers left old new result
    by (Ok done) runs =
        let does = runs.runs in
        let h = made_of runs in
        let text : List ℕ = trace m (first m script) does.events ++ does.tally in
        record {
          r = record { m = m; script = script; events = does.events };
          inputs = held runs.made (journal does.events) text does.events h does.puts;
          written = record {
            run = does.run;
            journal = filed_now module_file script_file journal_file seed old middle between runs.made new m script (journal does.events) text h does.puts;
          };
          feeds = record {
            prints = record {
              tally = does.tally;
              is_tally = does.is_tally;
              printed = printed_now module_file script_file journal_file seed old middle between runs.made new m script (journal does.events) text h does.puts;
            };
            fed = does.fed;
          };
        }
    by (Err Words) none = absurd none
    by (Err (Refused why)) none = absurd none
    by (Err Read) none = absurd none
    by (Err Write) (inl none) = unmade none
    by (Err Write) (inr runs) = cut runs.made runs.runs.events (cut_of runs) runs.runs.run runs.runs.cut
    by (Err Memory) same = same.1

-- ---- `replay`

-- a file that wasn't read, or was refused, and not for a line of a journal: no tracer was told
pub replay_untold : {T : Type 0} (module_file script_file journal_file : List ℕ) (tracers : List Meaning) (old new before after : Outside) (name : List ℕ) (Is : List ℕ → T → Type 0) (Refuses : List ℕ → Refusal → Type 0) (fault : Fault) → ((bytes : List ℕ) (line : ℕ) → Refuses bytes (Journal (Line line)) → ⊥) → ReadsInput {T = T} before after name Is Refuses (Err fault) → ReplayFeeds module_file script_file journal_file tracers tracers old new (Err fault)
replay_untold module_file script_file journal_file tracers old new before after name Is Refuses Words no_line reads = refl
replay_untold module_file script_file journal_file tracers old new before after name Is Refuses (Refused (ModuleRefusal why)) no_line reads = refl
replay_untold module_file script_file journal_file tracers old new before after name Is Refuses (Refused (Plan why)) no_line reads = refl
replay_untold module_file script_file journal_file tracers old new before after name Is Refuses (Refused (Script why)) no_line reads = refl
replay_untold module_file script_file journal_file tracers old new before after name Is Refuses (Refused (Journal TooLong)) no_line reads = refl
replay_untold module_file script_file journal_file tracers old new before after name Is Refuses (Refused (Journal (Line line))) no_line reads =
    absurd (no_line reads.input.0 line reads.input.2)
replay_untold module_file script_file journal_file tracers old new before after name Is Refuses Read no_line reads = refl
replay_untold module_file script_file journal_file tracers old new before after name Is Refuses Write no_line reads = absurd reads.input
replay_untold module_file script_file journal_file tracers old new before after name Is Refuses Memory no_line reads = refl

-- the journal was replayed, or refused at a line, or a print failed, or there was no memory
pub replays_feed : (module_file script_file journal_file : List ℕ) (old middle between now new : Outside) (m : Module) (script : ScriptValue) (read : Vec ℕ Global) (tracers left : List Meaning) (result : Result (Unit {0}) Fault) → ReadAll module_file script_file journal_file old middle between now m script read → ReplaysAs m script read.items tracers left now new result → ReplayFeeds module_file script_file journal_file tracers left old new result
replays_feed module_file script_file journal_file old middle between now new m script read tracers left result all did = by result did
  where
    tells : (text : List ℕ) → Puts now new [] text → Tells now.files new.files
    tells text puts = (unchanged now new text puts).files

    held : (text : List ℕ) (events : List Event) → Puts now new [] text → HoldsInputs (told_before old new) module_file script_file (record { m = m; script = script; events = events })
    held text events puts =
        inputs module_file script_file old new m script events
        (all_hold module_file script_file journal_file old middle between now new m script read all (tells text puts))

    printed : (text : List ℕ) → Puts now new [] text → Tells (with_more old.printed text) new.printed
    printed text puts =
        added_later old.printed now.printed new.printed text (has_all module_file script_file journal_file old middle between now m script read all).leaves.printed puts.printed

    stopped : (why : RunFault) → ReplayDoes m script read.items tracers left now new (Err why) → ReplayFeeds module_file script_file journal_file tracers left old new (Err (run_fault why))
    stopped WriteStop does =
        let text : List ℕ = events_text m (first m script) does.done ++ does.part in
        record {
          r = record { m = m; script = script; events = does.done };
          inputs = held text does.done does.puts;
          bytes = read.items;
          holds = third_holds module_file script_file journal_file old middle between now new m script read all (tells text does.puts);
          reader = does.reader;
          before = does.before;
          next = does.next;
          is_next = does.is_next;
          part = does.part;
          prefix = does.prefix;
          printed = printed text does.puts;
          fed = does.fed;
        }
    stopped (LineStop line) does =
        let text : List ℕ = events_text m (first m script) does.events in
        record {
          r = record { m = m; script = script; events = does.events };
          inputs = held text does.events does.puts;
          bytes = read.items;
          holds = third_holds module_file script_file journal_file old middle between now new m script read all (tells text does.puts);
          refused = does.is;
          fed = does.fed;
        }

    stopped_as : (fault : Fault) → StopsScript m script read.items tracers left now new fault → ReplayFeeds module_file script_file journal_file tracers left old new (Err fault)
    stopped_as fault stops =
        subst (λ (f : Fault). ReplayFeeds module_file script_file journal_file tracers left old new (Err f)) (sym stops.is) (stopped stops.why stops.replays)

    by : (result : Result (Unit {0}) Fault) → ReplaysAs m script read.items tracers left now new result → ReplayFeeds module_file script_file journal_file tracers left old new result
    by (Ok done) does =
        let text : List ℕ = trace m (first m script) does.events ++ does.tally in
        record {
          r = record { m = m; script = script; events = does.events };
          inputs = held text does.events does.puts;
          read = record {
            bytes = read.items;
            holds = third_holds module_file script_file journal_file old middle between now new m script read all (tells text does.puts);
            fits = third_fits module_file script_file journal_file old middle between now m script read all;
            replayed = does.is;
          };
          feeds = record {
            prints = record { tally = does.tally; is_tally = does.is_tally; printed = printed text does.puts };
            fed = does.fed;
          };
        }
    by (Err Words) stops = stopped_as Words stops
    by (Err (Refused why)) stops = stopped_as (Refused why) stops
    by (Err Read) stops = stopped_as Read stops
    by (Err Write) stops = stopped_as Write stops
    by (Err Memory) same = same.1

-- the text that is replayed is the one that was read
pub same_text : (m : Module) (script : ScriptValue) (text read : List ℕ) (tracers left : List Meaning) (old new : Outside) (result : Result (Unit {0}) Fault) → text ≡ read → ReplaysAs m script text tracers left old new result → ReplaysAs m script read tracers left old new result
same_text m script text read tracers left old new result same did = subst (λ (t : List ℕ). ReplaysAs m script t tracers left old new result) same did
