-- The ways through `replay`, whose three files are read one after the other.
use Rattle.std.proofs.Common.{◌≡◌, ◌≤◌, inl, inr, ℕ, List, [], ◌∷◌, ◌++◌, length, map, Option, Some, None, option_map, unwrap_or, Result, Ok, Err, Vec, refl, sym, ap, subst, lit≤}
use Rattle.std.specs.declared.alloc.Global.{Global}
use Rattle.poke_base.specs.declared.host.AskedBy.TheVariants.{Read as AskedRead}
use Rattle.poke_base.specs.Host.{Files, Outside, Tells, Rose, appended}
use Rattle.poke_base.specs.Text.{IsPrefix}
use Rattle.poke_base.proofs.Outsides.{IsPrefix-after, Rose-later, Tells-trans}
use Rattle.recorded_run.specs.declared.fault.RunFault.{RunFault}
use Rattle.recorded_run.specs.declared.fault.RunFault.TheVariants.{Write as WriteStop, Line as LineStop}
use Rattle.recorded_run.specs.Fed.{fed_events}
use Rattle.recorded_run.specs.Puts.{Puts}
use Rattle.recorded_run.specs.Replaying.{IsNextText, IsRefusedAt, IsReplayed, ReadsLegal, ReplayDoes}
use Rattle.run_journal.specs.declared.event.Event.{Event}
use Rattle.run_journal.specs.ReaderState.{ReaderState}
use Rattle.recorded_run.specs.Tally.{IsTally}
use Rattle.recorded_run.specs.Trace.{events_text, trace}
use Rattle.tracer_ops.specs.Meaning.{Meaning}
use Rattle.script_text.specs.Script.{ScriptValue}
use Rattle.module_image.specs.Module.{Module}
use Rattle.switching.specs.State.{first}
use Rattle.poke_faults.specs.declared.fault.Fault.{Fault}
use Rattle.poke_faults.specs.declared.fault.Fault.TheVariants.{Memory, Read, Refused, Words, Write}
use Rattle.poke_faults.specs.declared.fault.Refusal.TheVariants.{Journal}
use Rattle.poke_faults.specs.declared.journal_fault.JournalRefused.TheVariants.{Line}
use Rattle.poke_commands.specs.Check.{Accepts, RefusesAsModule}
use Rattle.poke_commands.specs.Command.{Replay, file_words}
use Rattle.poke_commands.specs.Journal.{AcceptsJournal, RefusesAsJournal, journal_limit}
use Rattle.poke_faults.specs.RunFault.{run_fault}
use Rattle.poke_commands.specs.Runs.{Asks, Does, IsRead, MakesNothing, ReadsInput}
use Rattle.poke_commands.specs.Saying.{Begins, Holds, JournalBegins, JournalSays, Saying, Says, WithJournal, WithScript, refuses, refuses_line, says_text, told_before}
use Rattle.poke_commands.specs.Script.{AcceptsScript, RefusesAsScript}
use Rattle.poke_commands.specs.Scripted.{ReplaysAs, StopsScript}
use Rattle.poke_commands.proofs.Asking.{Asks-none, Asks-same, HasRead, MakesNothing-trans, added_later, has_read-more, held_before, still_told}
use Rattle.poke_commands.proofs.Sayings.{asks_after_script, replay_asks}
use Rattle.poke_commands.proofs.TwoFiles.{BothHold, ReadsFirst, both_hold, both_read}
use Rattle.poke_commands.proofs.Ways.{input_fails, lacks_memory}

-- what a run does to the outside asks for nothing
pub Asks-puts : (old new : Outside) (filed text : List ℕ) → Puts old new filed text → Asks [] old new
Asks-puts old new filed text h = Asks-none old new h.asked h.complained h.complain_faults h.read_faults h.write_faults

-- where nothing was appended the files are as they were
none_appended : (files : Option Files) (making : Option (List ℕ)) → option_map (λ files. appended files (unwrap_or making []) []) files ≡ files
none_appended None making = refl
none_appended (Some files) making = refl

pub unchanged : (old new : Outside) (text : List ℕ) → Puts old new [] text → MakesNothing old new
unchanged old new text h = record {
  files = subst (λ (files : Option Files). Tells files new.files) (none_appended old.files old.making) h.files;
  making = h.making;
}

-- the module and the script were read
pub record ReadBoth (module_file script_file journal_file : List ℕ) (old middle between : Outside) (m : Module) (script : ScriptValue) : Type 0 where
  pub first : ReadsFirst (Replay module_file script_file journal_file) module_file script_file old middle Accepts RefusesAsModule m
  pub second : ReadsInput middle between script_file (AcceptsScript m) (RefusesAsScript m) (Ok script)

has_both : (module_file script_file journal_file : List ℕ) (old middle between : Outside) (m : Module) (script : ScriptValue) → ReadBoth module_file script_file journal_file old middle between m script → HasRead (Replay module_file script_file journal_file) 2 old between
has_both module_file script_file journal_file old middle between m script both =
    both_read (Replay module_file script_file journal_file) module_file script_file old middle between Accepts RefusesAsModule m (AcceptsScript m) (RefusesAsScript m) script both.first both.second

third_is_read : (module_file script_file journal_file : List ℕ) → IsRead (file_words (Replay module_file script_file journal_file)) 3
third_is_read module_file script_file journal_file = record {
  before = (module_file, AskedRead) ∷ (script_file, AskedRead) ∷ [];
  name = journal_file;
  after = [];
  words_are = refl;
  is_last = refl;
}

-- what the module and the script say of a journal is said
says_journal : (P : Module → ScriptValue → List ℕ → Saying → Type 0) (module_file script_file journal_file : List ℕ) (told : Option Files) (m : Module) (script : ScriptValue) (bytes : List ℕ) (s : Saying) → BothHold told module_file script_file Accepts m (AcceptsScript m) script → Holds told journal_file bytes → P m script bytes s → WithScript (WithJournal P told journal_file) told module_file script_file s
says_journal P module_file script_file journal_file told m script bytes s hold holds says =
    (hold.bytes, hold.holds, inr (m, hold.is, (hold.text, hold.holds_too, inr (script, hold.is_too, (bytes, holds, says)))))

-- the journal failed
pub third_fails : (module_file script_file journal_file : List ℕ) (old middle between new : Outside) (m : Module) (script : ScriptValue) (fault : Fault) → ReadBoth module_file script_file journal_file old middle between m script → ReadsInput {T = Vec ℕ Global} between new journal_file AcceptsJournal RefusesAsJournal (Err fault) → Does (Replay module_file script_file journal_file) old new (Err fault)
third_fails module_file script_file journal_file old middle between new m script fault both reads =
    let row = Replay module_file script_file journal_file in
    let hold : BothHold (told_before old new) module_file script_file Accepts m (AcceptsScript m) script = both_hold row module_file script_file old middle between new Accepts RefusesAsModule m (AcceptsScript m) (RefusesAsScript m) script both.first both.second (still_told between.files new.files reads.leaves.nothing.files) in
    input_fails row 2 3 journal_file old between new AcceptsJournal RefusesAsJournal fault refl (third_is_read module_file script_file journal_file) (lit≤ tt)
    (has_both module_file script_file journal_file old middle between m script both) reads
    (λ bytes why holds refused. says_journal JournalSays module_file script_file journal_file (told_before old new) m script bytes (refuses 3 why) hold holds (inl (refused.1, ap (refuses 3) refused.0)))
    (λ s some says. asks_after_script (WithJournal JournalSays (told_before old new) journal_file) (told_before old new) module_file script_file hold.bytes hold.text m script s 3 (λ n other said. replay_asks (told_before old new) journal_file n other s said) some hold.holds hold.is hold.holds_too hold.is_too says)

-- all three were read
pub record ReadAll (module_file script_file journal_file : List ℕ) (old middle between now : Outside) (m : Module) (script : ScriptValue) (read : Vec ℕ Global) : Type 0 where
  pub both : ReadBoth module_file script_file journal_file old middle between m script
  pub third : ReadsInput between now journal_file AcceptsJournal RefusesAsJournal (Ok read)

pub has_all : (module_file script_file journal_file : List ℕ) (old middle between now : Outside) (m : Module) (script : ScriptValue) (read : Vec ℕ Global) → ReadAll module_file script_file journal_file old middle between now m script read → HasRead (Replay module_file script_file journal_file) 3 old now
has_all module_file script_file journal_file old middle between now m script read all =
    has_read-more (Replay module_file script_file journal_file) 2 3 journal_file old between now AcceptsJournal RefusesAsJournal (Ok read) refl (third_is_read module_file script_file journal_file)
    (has_both module_file script_file journal_file old middle between m script all.both) all.third

-- there was no memory after they were read
pub three_lack : (module_file script_file journal_file : List ℕ) (old middle between now : Outside) (m : Module) (script : ScriptValue) (read : Vec ℕ Global) → ReadAll module_file script_file journal_file old middle between now m script read → Does (Replay module_file script_file journal_file) old now (Err Memory)
three_lack module_file script_file journal_file old middle between now m script read all =
    lacks_memory (Replay module_file script_file journal_file) 3 old now (has_all module_file script_file journal_file old middle between now m script read all) (lit≤ tt)

-- what a command answers after a run or a replay
abbrev pub after_run : Result (Unit {0}) RunFault → Result (Unit {0}) Fault
after_run (Ok done) = Ok tt
after_run (Err why) = Err (run_fault why)

-- ---- what was printed then, whatever it is

replayed : (module_file script_file journal_file : List ℕ) (old now new : Outside) (text : List ℕ) → HasRead (Replay module_file script_file journal_file) 3 old now → Puts now new [] text → Says (Replay module_file script_file journal_file) (told_before old new) (says_text 3 text) → Does (Replay module_file script_file journal_file) old new (Ok tt)
replayed module_file script_file journal_file old now new text has puts says =
    let nothing = unchanged now new text puts in
    record {
      names = 3;
      asks = Asks-same _ old now new has.asks (Asks-puts now new [] text puts);
      all = refl;
      reads = λ none. absurd none;
      does = record {
        saying = says_text 3 text;
        says = says;
        refused_is = refl;
        asks = refl;
        does = record {
          printed = added_later old.printed now.printed new.printed text has.leaves.printed puts.printed;
          made = MakesNothing-trans old now new has.leaves.nothing nothing;
        };
      };
    }

stopped : (module_file script_file journal_file : List ℕ) (old now new : Outside) (text : List ℕ) (line : ℕ) → HasRead (Replay module_file script_file journal_file) 3 old now → Puts now new [] text → Says (Replay module_file script_file journal_file) (told_before old new) (refuses_line text line) → Does (Replay module_file script_file journal_file) old new (Err (Refused (Journal (Line line))))
stopped module_file script_file journal_file old now new text line has puts says =
    let nothing = unchanged now new text puts in
    record {
      names = 3;
      asks = Asks-same _ old now new has.asks (Asks-puts now new [] text puts);
      all = tt;
      reads = λ none. absurd none;
      does = record {
        saying = refuses_line text line;
        says = says;
        refused_is = refl;
        asks = refl;
        does = record {
          printed = added_later old.printed now.printed new.printed text has.leaves.printed puts.printed;
          made = MakesNothing-trans old now new has.leaves.nothing nothing;
        };
      };
    }

cut_off : (module_file script_file journal_file : List ℕ) (old now new : Outside) (begun part next : List ℕ) → HasRead (Replay module_file script_file journal_file) 3 old now → Puts now new [] (begun ++ part) → IsPrefix part next → Rose now.write_faults new.write_faults → Begins (Replay module_file script_file journal_file) (told_before old new) (says_text 3 (begun ++ next)) → Does (Replay module_file script_file journal_file) old new (Err Write)
cut_off module_file script_file journal_file old now new begun part next has puts prefix rose begins =
    let nothing = unchanged now new (begun ++ part) puts in
    record {
      names = 3;
      asks = Asks-same _ old now new has.asks (Asks-puts now new [] (begun ++ part) puts);
      all = tt;
      reads = λ none. absurd none;
      does = record {
        rose = Rose-later old.write_faults now.write_faults new.write_faults has.asks.write_faults rose;
        saying = says_text 3 (begun ++ next);
        says = begins;
        begins = λ some. absurd (cc);
        asks = refl;
        cuts = record {
          part = record {
            printed = record {
              part = begun ++ part;
              prefix = IsPrefix-after begun part next prefix;
              printed = added_later old.printed now.printed new.printed (begun ++ part) has.leaves.printed puts.printed;
            };
            made = MakesNothing-trans old now new has.leaves.nothing nothing;
          };
          coupled = tt;
        };
      };
    }

-- ---- what a journal says of it

says_replayed : (m : Module) (script : ScriptValue) (bytes text tally : List ℕ) (events : List Event) (tracers : List Meaning) → length bytes ≤ journal_limit → IsReplayed m (first m script) bytes events → IsTally (fed_events m (first m script) events tracers) tally → text ≡ trace m (first m script) events ++ tally → JournalSays m script bytes (says_text 3 text)
says_replayed m script bytes text tally events tracers fits is is_tally same =
    inr (inr (record { fits = fits; events = events; replayed = is; tracers = tracers; tally = tally; is_tally = is_tally; is = ap (says_text 3) same }))

says_stopped : (m : Module) (script : ScriptValue) (bytes text : List ℕ) (events : List Event) (line : ℕ) → length bytes ≤ journal_limit → IsRefusedAt m (first m script) bytes events line → text ≡ events_text m (first m script) events → JournalSays m script bytes (refuses_line text line)
says_stopped m script bytes text events line fits is same =
    inr (inl (record { fits = fits; events = events; line = line; refused = is; is = ap (λ (t : List ℕ). refuses_line t line) same }))

says_begun : (m : Module) (script : ScriptValue) (bytes begun next : List ℕ) (events : List Event) (tracers : List Meaning) (reader : ReaderState) → length bytes ≤ journal_limit → ReadsLegal m (first m script) bytes events reader → IsNextText m (first m script) bytes tracers events reader next → begun ≡ events_text m (first m script) events → JournalBegins m script bytes (says_text 3 (begun ++ next))
says_begun m script bytes begun next events tracers reader fits before is_next same = record {
  fits = fits;
  tracers = tracers;
  events = events;
  reader = reader;
  before = before;
  next = next;
  is_next = is_next;
  is = ap (λ (t : List ℕ). says_text 3 (t ++ next)) same;
}

-- what the three files hold, where they are still told
pub all_hold : (module_file script_file journal_file : List ℕ) (old middle between now new : Outside) (m : Module) (script : ScriptValue) (read : Vec ℕ Global) → ReadAll module_file script_file journal_file old middle between now m script read → Tells now.files new.files → BothHold (told_before old new) module_file script_file Accepts m (AcceptsScript m) script
all_hold module_file script_file journal_file old middle between now new m script read all tells =
    both_hold (Replay module_file script_file journal_file) module_file script_file old middle between new Accepts RefusesAsModule m (AcceptsScript m) (RefusesAsScript m) script all.both.first all.both.second
    (still_told between.files new.files (Tells-trans between.files now.files new.files all.third.leaves.nothing.files tells))

pub third_holds : (module_file script_file journal_file : List ℕ) (old middle between now new : Outside) (m : Module) (script : ScriptValue) (read : Vec ℕ Global) → ReadAll module_file script_file journal_file old middle between now m script read → Tells now.files new.files → Holds (told_before old new) journal_file read.items
third_holds module_file script_file journal_file old middle between now new m script read all tells =
    let has = has_all module_file script_file journal_file old middle between now m script read all in
    subst (λ (bytes : List ℕ). Holds (told_before old new) journal_file bytes) (sym all.third.input.2.0)
    (held_before old now new journal_file all.third.input.0 has.leaves.nothing.files (still_told now.files new.files tells) all.third.input.1)

pub third_fits : (module_file script_file journal_file : List ℕ) (old middle between now : Outside) (m : Module) (script : ScriptValue) (read : Vec ℕ Global) → ReadAll module_file script_file journal_file old middle between now m script read → length read.items ≤ journal_limit
third_fits module_file script_file journal_file old middle between now m script read all =
    subst (λ (bytes : List ℕ). length bytes ≤ journal_limit) (sym all.third.input.2.0) all.third.input.2.1

-- the journal was replayed, refused at a line, or a print failed
pub replays_said : (module_file script_file journal_file : List ℕ) (old middle between now new : Outside) (m : Module) (script : ScriptValue) (read : Vec ℕ Global) (tracers left : List Meaning) (result : Result (Unit {0}) RunFault) → ReadAll module_file script_file journal_file old middle between now m script read → ReplayDoes m script read.items tracers left now new result → Does (Replay module_file script_file journal_file) old new (after_run result)
replays_said module_file script_file journal_file old middle between now new m script read tracers left result all does = by result does
  where
    has : HasRead (Replay module_file script_file journal_file) 3 old now
    has = has_all module_file script_file journal_file old middle between now m script read all

    hold : Tells now.files new.files → BothHold (told_before old new) module_file script_file Accepts m (AcceptsScript m) script
    hold tells = all_hold module_file script_file journal_file old middle between now new m script read all tells

    holds : Tells now.files new.files → Holds (told_before old new) journal_file read.items
    holds tells = third_holds module_file script_file journal_file old middle between now new m script read all tells

    fits : length read.items ≤ journal_limit
    fits = third_fits module_file script_file journal_file old middle between now m script read all

    said : (P : Module → ScriptValue → List ℕ → Saying → Type 0) (text : List ℕ) (s : Saying) → Puts now new [] text → P m script read.items s → WithScript (WithJournal P (told_before old new) journal_file) (told_before old new) module_file script_file s
    said P text s puts says =
        let tells = (unchanged now new text puts).files in
        says_journal P module_file script_file journal_file (told_before old new) m script read.items s (hold tells) (holds tells) says

    by : (result : Result (Unit {0}) RunFault) → ReplayDoes m script read.items tracers left now new result → Does (Replay module_file script_file journal_file) old new (after_run result)
    by (Ok done) does =
        let text : List ℕ = trace m (first m script) does.events ++ does.tally in
        replayed module_file script_file journal_file old now new text has does.puts
        (said JournalSays text (says_text 3 text) does.puts (says_replayed m script read.items text does.tally does.events tracers fits does.is does.is_tally refl))
    by (Err WriteStop) does =
        let begun : List ℕ = events_text m (first m script) does.done in
        cut_off module_file script_file journal_file old now new begun does.part does.next has does.puts does.prefix does.failed
        (said JournalBegins (begun ++ does.part) (says_text 3 (begun ++ does.next)) does.puts (says_begun m script read.items begun does.next does.done tracers does.reader fits does.before does.is_next refl))
    by (Err (LineStop line)) does =
        let text : List ℕ = events_text m (first m script) does.events in
        stopped module_file script_file journal_file old now new text line has does.puts
        (said JournalSays text (refuses_line text line) does.puts (says_stopped m script read.items text does.events line fits does.is refl))

-- the same, as the fault of the command, or there was no memory
pub replays_as : (module_file script_file journal_file : List ℕ) (old middle between now new : Outside) (m : Module) (script : ScriptValue) (read : Vec ℕ Global) (tracers left : List Meaning) (result : Result (Unit {0}) Fault) → ReadAll module_file script_file journal_file old middle between now m script read → ReplaysAs m script read.items tracers left now new result → Does (Replay module_file script_file journal_file) old new result
replays_as module_file script_file journal_file old middle between now new m script read tracers left result all did = by result did
  where
    stopped_as : (fault : Fault) → StopsScript m script read.items tracers left now new fault → Does (Replay module_file script_file journal_file) old new (Err fault)
    stopped_as fault stopped_is =
        subst (λ (f : Fault). Does (Replay module_file script_file journal_file) old new (Err f)) (sym stopped_is.is)
        (replays_said module_file script_file journal_file old middle between now new m script read tracers left (Err stopped_is.why) all stopped_is.replays)

    by : (result : Result (Unit {0}) Fault) → ReplaysAs m script read.items tracers left now new result → Does (Replay module_file script_file journal_file) old new result
    by (Ok done) does = replays_said module_file script_file journal_file old middle between now new m script read tracers left (Ok tt) all does
    by (Err Words) stops = stopped_as Words stops
    by (Err (Refused why)) stops = stopped_as (Refused why) stops
    by (Err Read) stops = stopped_as Read stops
    by (Err Write) stops = stopped_as Write stops
    by (Err Memory) same =
        subst (λ (o : Outside). Does (Replay module_file script_file journal_file) old o (Err Memory)) (sym same.0)
        (three_lack module_file script_file journal_file old middle between now m script read all)

-- what a replay answers, as the fault of the command
pub replay_answers : (m : Module) (script : ScriptValue) (text : List ℕ) (tracers left : List Meaning) (old new : Outside) (result : Result (Unit {0}) RunFault) → ReplayDoes m script text tracers left old new result → ReplaysAs m script text tracers left old new (after_run result)
replay_answers m script text tracers left old new (Ok done) does = does
replay_answers m script text tracers left old new (Err WriteStop) does = record { why = WriteStop; replays = does; is = refl }
replay_answers m script text tracers left old new (Err (LineStop line)) does = record { why = LineStop line; replays = does; is = refl }

-- what a world that is new replays is said of its module and script
pub replay_said : (m n : Module) (script other : ScriptValue) (text : List ℕ) (tracers left : List Meaning) (old new : Outside) (result : Result (Unit {0}) Fault) → m ≡ n → script ≡ other → ReplaysAs m script text tracers left old new result → ReplaysAs n other text tracers left old new result
replay_said m n script other text tracers left old new result same_module same_script did =
    subst (λ (x : Module). ReplaysAs x other text tracers left old new result) same_module
    (subst (λ (x : ScriptValue). ReplaysAs m x text tracers left old new result) same_script did)
