-- The ways through `run`: its module and script are read, its journal is made, and then it runs.
use Rattle.std.proofs.Common.{◌≡◌, ◌∙◌, ◌⊎◌, inl, inr, ℕ, List, [], ◌∷◌, ◌++◌, take, Option, Some, None, IsSome, Result, Ok, Err, refl, sym, ap, subst, arith, append_assoc, append-nil}
use Rattle.std.specs.List.{flat_map}
use Rattle.std.proofs.lemmas.Grind.{flat_map-append}
use Rattle.poke_base.specs.declared.host.AskedBy.TheVariants.{Make as AskedMake}
use Rattle.poke_base.specs.declared.host.WriteFail.{WriteFail}
use Rattle.poke_base.specs.Host.{Files, MakesFile, Outside, Rose, Tells, with_file, with_more}
use Rattle.poke_base.specs.Text.{IsPrefix}
use Rattle.poke_base.proofs.Outsides.{IsPrefix-after, IsPrefix-longer, Rose-later, Tells-no_more, Tells-trans}
use Rattle.module_image.specs.Module.{IsAccepted, Module}
use Rattle.recorded_run.specs.declared.fault.RunFault.{RunFault}
use Rattle.recorded_run.specs.declared.fault.RunFault.TheVariants.{Write as WriteStop, Line as LineStop}
use Rattle.recorded_run.specs.Fed.{fed_events}
use Rattle.recorded_run.specs.Puts.{Puts}
use Rattle.recorded_run.specs.Running.{HeaderIsCut, IsCut, IsNext, IsRun, RunDoes, next_line}
use Rattle.recorded_run.specs.Tally.{IsTally}
use Rattle.recorded_run.specs.Trace.{event_text, events_text, sites_text, trace}
use Rattle.run_journal.specs.declared.event.Event.{Event}
use Rattle.run_journal.specs.Spelling.{event_line, header, journal}
use Rattle.script_runner.specs.TraceText.{line_text, trace_text}
use Rattle.script_text.specs.Script.{ScriptValue}
use Rattle.switching.specs.Journal.{after, lines}
use Rattle.switching.specs.Next.{next as next_state}
use Rattle.switching.specs.Said.{TraceLine, said}
use Rattle.switching.specs.State.{State, first}
use Rattle.tracer_ops.specs.Meaning.{Meaning}
use Rattle.switching.proofs.ChoiceLegal.{chosen_are_legal}
use Rattle.switching.proofs.ChoiceRuns.{runs_are_there}
use Rattle.poke_faults.specs.declared.fault.Fault.{Fault}
use Rattle.poke_faults.specs.declared.fault.Fault.TheVariants.{Memory, Read, Refused, Words, Write}
use Rattle.poke_commands.specs.Check.{Accepts, RefusesAsModule, elf_of}
use Rattle.poke_commands.specs.Command.{Run, file_words}
use Rattle.poke_commands.specs.RunCuts.{CutsRun, StopsBetween, StopsEarly}
use Rattle.poke_commands.specs.Runs.{Asks, Does, MakesPrefix, PrintsPrefix, ReadsInput}
use Rattle.poke_commands.specs.Saying.{RunSays, Says, says_both, told_before}
use Rattle.poke_commands.specs.Script.{AcceptsScript, RefusesAsScript}
use Rattle.poke_commands.specs.Scripted.{RunsAs, RunsScript}
use Rattle.poke_commands.proofs.Asking.{Asks-makes, Asks-more, Asks-same, HasRead, added_later, made_later, made_with, still_told}
use Rattle.poke_tool.proofs.SomeTally.{some_tally}
use Rattle.poke_tool.proofs.ThreeFiles.{Asks-puts, after_run}
use Rattle.poke_commands.proofs.TwoFiles.{BothHold, ReadsFirst, both_hold, both_lack, both_read}

-- ---- a part of a run is a part of its journal and of its trace

trace_both : (a b : List TraceLine) → trace_text (a ++ b) ≡ trace_text a ++ trace_text b
trace_both a b = flat_map-append line_text a b

lines_both : (m : Module) (s : State) (done rest : List Event) → lines m s (done ++ rest) ≡ lines m s done ++ lines m (after m s done) rest
lines_both m s [] rest = refl
lines_both m s (e ∷ done) rest =
    ap (λ (ls : List TraceLine). said m s e ++ ls) (lines_both m (next_state m s e) done rest)
    ∙ sym (append_assoc (said m s e) (lines m (next_state m s e) done) (lines m (after m (next_state m s e) done) rest))

events_text_both : (m : Module) (s : State) (done rest : List Event) → events_text m s (done ++ rest) ≡ events_text m s done ++ events_text m (after m s done) rest
events_text_both m s done rest =
    ap trace_text (lines_both m s done rest) ∙ trace_both (lines m s done) (lines m (after m s done) rest)

-- all that is said of events: their trace, and what became of the tracers
pub record IsWhole (m : Module) (s : State) (events : List Event) (tracers : List Meaning) (text : List ℕ) : Type 0 where
  pub tally : List ℕ
  pub is_tally : IsTally (fed_events m s events tracers) tally
  pub is : text ≡ trace m s events ++ tally

-- a text with which all that is said of events begins
pub record Begun (m : Module) (s : State) (events : List Event) (tracers : List Meaning) (begun : List ℕ) : Type 0 where
  pub whole : List ℕ
  pub is_whole : IsWhole m s events tracers whole
  pub prefix : IsPrefix begun whole

-- the text that is printed next is where the rest begins
text_part : (m : Module) (s : State) (tracers : List Meaning) (done rest : List Event) (next text : List ℕ) → IsNext m s tracers done rest next → IsPrefix text next → Begun m s (done ++ rest) tracers (events_text m s done ++ text)
text_part m s tracers done [] next text (tally, is_tally, is) prefix =
    subst (λ (events : List Event). Begun m s events tracers (events_text m s done ++ text)) (sym (append-nil done))
    (record {
      whole = trace m s done ++ tally;
      is_whole = record { tally = tally; is_tally = is_tally; is = refl };
      prefix =
          subst (λ (whole : List ℕ). IsPrefix (events_text m s done ++ text) whole) (sym (append_assoc (events_text m s done) (sites_text m (after m s done)) tally))
          (subst (λ (ends : List ℕ). IsPrefix (events_text m s done ++ text) (events_text m s done ++ ends)) is (IsPrefix-after (events_text m s done) text next prefix));
    })
text_part m s tracers done (e ∷ rest) next text is prefix =
    let some = some_tally (fed_events m s (done ++ e ∷ rest) tracers) in
    record {
      whole = trace m s (done ++ e ∷ rest) ++ some.text;
      is_whole = record { tally = some.text; is_tally = some.is; is = refl };
      prefix =
          IsPrefix-longer (events_text m s done ++ text) (trace m s (done ++ e ∷ rest)) some.text
          (IsPrefix-longer (events_text m s done ++ text) (events_text m s (done ++ e ∷ rest)) (sites_text m (after m s (done ++ e ∷ rest)))
          (subst (λ (whole : List ℕ). IsPrefix (events_text m s done ++ text) whole) (sym (events_text_both m s done (e ∷ rest)))
          (IsPrefix-after (events_text m s done) text (events_text m (after m s done) (e ∷ rest))
          (subst (λ (whole : List ℕ). IsPrefix text whole) (sym (trace_both (said m (after m s done) e) (lines m (next_state m (after m s done) e) rest)))
          (IsPrefix-longer text (event_text m (after m s done) e) (trace_text (lines m (next_state m (after m s done) e) rest))
          (subst (λ (shown : List ℕ). IsPrefix text shown) is prefix))))));
    }

-- the line that is appended next is where the rest of the journal begins
journal_part : (done rest : List Event) (filed : List ℕ) → IsPrefix filed (next_line rest) → IsPrefix (journal done ++ filed) (journal (done ++ rest))
journal_part done rest filed prefix =
    subst (λ (whole : List ℕ). IsPrefix (journal done ++ filed) whole) (append_assoc header (flat_map event_line done) (flat_map event_line rest) ∙ ap (λ (ls : List ℕ). header ++ ls) (sym (flat_map-append event_line done rest)))
    (IsPrefix-after (journal done) filed (flat_map event_line rest) (by rest prefix))
  where
    by : (rest : List Event) → IsPrefix filed (next_line rest) → IsPrefix filed (flat_map event_line rest)
    by [] prefix = prefix
    by (e ∷ rest) prefix = IsPrefix-longer filed (event_line e) (flat_map event_line rest) prefix

-- a prefix of the header is one of every journal
header_part : (events : List Event) (part : List ℕ) → IsPrefix part header → IsPrefix part (journal events)
header_part events part prefix = IsPrefix-longer part header (flat_map event_line events) prefix

-- ---- the module and the script were read

pub record ReadBoth (module_file script_file journal_file : List ℕ) (seed : ℕ) (old middle between : Outside) (m : Module) (script : ScriptValue) : Type 0 where
  pub first : ReadsFirst (Run module_file script_file journal_file seed) module_file script_file old middle Accepts RefusesAsModule m
  pub second : ReadsInput middle between script_file (AcceptsScript m) (RefusesAsScript m) (Ok script)

pub has_both : (module_file script_file journal_file : List ℕ) (seed : ℕ) (old middle between : Outside) (m : Module) (script : ScriptValue) → ReadBoth module_file script_file journal_file seed old middle between m script → HasRead (Run module_file script_file journal_file seed) 2 old between
has_both module_file script_file journal_file seed old middle between m script both =
    both_read (Run module_file script_file journal_file seed) module_file script_file old middle between Accepts RefusesAsModule m (AcceptsScript m) (RefusesAsScript m) script both.first both.second

pub holds_both : (module_file script_file journal_file : List ℕ) (seed : ℕ) (old middle between new : Outside) (m : Module) (script : ScriptValue) → ReadBoth module_file script_file journal_file seed old middle between m script → ((x : Files) → new.files ≡ Some x → IsSome between.files) → BothHold (told_before old new) module_file script_file Accepts m (AcceptsScript m) script
holds_both module_file script_file journal_file seed old middle between new m script both still =
    both_hold (Run module_file script_file journal_file seed) module_file script_file old middle between new Accepts RefusesAsModule m (AcceptsScript m) (RefusesAsScript m) script both.first both.second still

-- what they say is said of the events that the seed chooses
run_says : (module_file script_file journal_file : List ℕ) (seed : ℕ) (told : Option Files) (m : Module) (script : ScriptValue) (events : List Event) (tracers : List Meaning) (text : List ℕ) → BothHold told module_file script_file Accepts m (AcceptsScript m) script → IsRun m script seed events → IsWhole m (first m script) events tracers text → Says (Run module_file script_file journal_file seed) told (says_both 3 text journal_file (journal events))
run_says module_file script_file journal_file seed told m script events tracers text hold run whole = (hold.bytes, hold.holds, inr (m, hold.is, (hold.text, hold.holds_too, inr (script, hold.is_too, said))))
  where
    said : RunSays journal_file seed m script (says_both 3 text journal_file (journal events))
    said = record {
      events = events;
      run = run;
      tracers = tracers;
      tally = whole.tally;
      is_tally = whole.is_tally;
      is = ap (λ (shown : List ℕ). says_both 3 shown journal_file (journal events)) whole.is;
    }

-- something is said of all events
a_whole : (m : Module) (s : State) (events : List Event) (tracers : List Meaning) → Begun m s events tracers []
a_whole m s events tracers =
    let some = some_tally (fed_events m s events tracers) in
    record {
      whole = trace m s events ++ some.text;
      is_whole = record { tally = some.text; is_tally = some.is; is = refl };
      prefix = refl;
    }

-- a seed chooses some
pub record ARun (m : Module) (script : ScriptValue) (seed : ℕ) : Type 0 where
  pub events : List Event
  pub run : IsRun m script seed events

pub a_run : (told : Option Files) (module_file script_file : List ℕ) (m : Module) (script : ScriptValue) (seed : ℕ) → BothHold told module_file script_file Accepts m (AcceptsScript m) script → ARun m script seed
a_run told module_file script_file m script seed hold =
    let accepted : IsAccepted m = record { elf = elf_of hold.bytes; is = hold.is.is_module } in
    let there = runs_are_there m script seed accepted hold.is_too.of in
    record { events = there.0; run = record { chosen = there.1; legal = chosen_are_legal m script seed there.0 there.1 } }

-- ---- a write failed

-- what is said of a text and a journal, whatever they are
abbrev SaysRun : List ℕ → List ℕ → List ℕ → ℕ → Outside → Outside → List ℕ → List ℕ → Type 0
SaysRun module_file script_file journal_file seed old new text bytes =
    Says (Run module_file script_file journal_file seed) (told_before old new) (says_both 3 text journal_file bytes)

-- a write failed: so much is left
cut_off : (module_file script_file journal_file : List ℕ) (seed : ℕ) (old new : Outside) (text bytes : List ℕ) → Asks (take 3 (file_words (Run module_file script_file journal_file seed))) old new → Rose old.write_faults new.write_faults → SaysRun module_file script_file journal_file seed old new text bytes → PrintsPrefix old new text → MakesPrefix old new journal_file bytes → CutsRun journal_file (says_both 3 text journal_file bytes) old new → Does (Run module_file script_file journal_file seed) old new (Err Write)
cut_off module_file script_file journal_file seed old new text bytes asks rose says printed made coupled = record {
  names = 3;
  asks = asks;
  all = tt;
  reads = λ none. absurd none;
  does = record {
    rose = rose;
    saying = says_both 3 text journal_file bytes;
    says = says;
    begins = λ some. absurd (cc);
    asks = refl;
    cuts = record { part = record { printed = printed; made = made }; coupled = coupled };
  };
}

-- how far journal and trace went together, of a text and a journal that are those of events
coupled_as : (m : Module) (start : State) (events : List Event) (tracers : List Meaning) (name text bytes : List ℕ) (old new : Outside) → IsWhole m start events tracers text → bytes ≡ journal events → StopsEarly name old new ⊎ StopsBetween m start events tracers name old new → CutsRun name (says_both 3 text name bytes) old new
coupled_as m start events tracers name text bytes old new whole same_bytes stops = record {
  m = m;
  start = start;
  events = events;
  tracers = tracers;
  tally = whole.tally;
  is_tally = whole.is_tally;
  text_is = whole.is;
  makes_is = ap (λ (b : List ℕ). Some (name, b)) same_bytes;
  stops = stops;
}

-- what is left where nothing was printed and the file holds a prefix of the header, or is as before
run_stops_early : (module_file script_file journal_file : List ℕ) (seed : ℕ) (old new : Outside) (m : Module) (script : ScriptValue) (events : List Event) (tracers : List Meaning) (text part : List ℕ) → Asks (take 3 (file_words (Run module_file script_file journal_file seed))) old new → IsPrefix part header → Tells old.files new.files ⊎ Tells (with_file old.files journal_file part) new.files → Tells old.printed new.printed → Rose old.write_faults new.write_faults → IsWhole m (first m script) events tracers text → SaysRun module_file script_file journal_file seed old new text (journal events) → Does (Run module_file script_file journal_file seed) old new (Err Write)
run_stops_early module_file script_file journal_file seed old new m script events tracers text part asks prefix files printed rose whole says =
    cut_off module_file script_file journal_file seed old new text (journal events) asks rose says
    (record { part = []; prefix = refl; printed = Tells-trans _ old.printed new.printed (Tells-no_more old.printed) printed })
    (record { part = part; prefix = header_part events part prefix; files = files })
    (coupled_as m (first m script) events tracers journal_file text _ old new whole refl (inl (record { part = part; prefix = prefix; files = files; printed = printed })))

-- the journal wasn't made
pub still_unmade : (between new : Option Files) (name : List ℕ) → Tells between new ⊎ Tells (with_file between name []) new → (x : Files) → new ≡ Some x → IsSome between
still_unmade between new name (inl same) x e = still_told between new same x e
still_unmade None new name (inr made) x e = let none = made.told x e in absurd (cc)
still_unmade (Some files) new name (inr made) x e = refl

pub unmade_files : (module_file script_file journal_file : List ℕ) (seed : ℕ) (old middle between new : Outside) (m : Module) (script : ScriptValue) → ReadBoth module_file script_file journal_file seed old middle between m script → Tells between.files new.files ⊎ Tells (with_file between.files journal_file []) new.files → Tells old.files new.files ⊎ Tells (with_file old.files journal_file []) new.files
unmade_files module_file script_file journal_file seed old middle between new m script both files = by files
  where
    before : Tells old.files between.files
    before = (has_both module_file script_file journal_file seed old middle between m script both).leaves.nothing.files

    by : Tells between.files new.files ⊎ Tells (with_file between.files journal_file []) new.files → Tells old.files new.files ⊎ Tells (with_file old.files journal_file []) new.files
    by (inl same) = inl (Tells-trans old.files between.files new.files before same)
    by (inr made) = inr (made_later old.files between.files new.files journal_file [] before made)

pub run_unmade : (module_file script_file journal_file : List ℕ) (seed : ℕ) (old middle between new : Outside) (m : Module) (script : ScriptValue) (why : WriteFail) → ReadBoth module_file script_file journal_file seed old middle between m script → MakesFile {T = Unit {0}} {E = WriteFail} between new journal_file (Err why) → Does (Run module_file script_file journal_file seed) old new (Err Write)
run_unmade module_file script_file journal_file seed old middle between new m script why both makes =
    let has = has_both module_file script_file journal_file seed old middle between m script both in
    let hold = holds_both module_file script_file journal_file seed old middle between new m script both (still_unmade between.files new.files journal_file makes.not_made) in
    let some = a_run (told_before old new) module_file script_file m script seed hold in
    let told = a_whole m (first m script) some.events [] in
    run_stops_early module_file script_file journal_file seed old new m script some.events [] told.whole []
    (Asks-more (take 2 (file_words (Run module_file script_file journal_file seed))) ((journal_file, AskedMake) ∷ []) old between new has.asks (Asks-makes between new journal_file (Err why) makes))
    refl (unmade_files module_file script_file journal_file seed old middle between new m script both makes.not_made)
    (Tells-trans old.printed between.printed new.printed has.leaves.printed makes.printed)
    (Rose-later old.write_faults between.write_faults new.write_faults has.asks.write_faults makes.failed)
    told.is_whole
    (run_says module_file script_file journal_file seed (told_before old new) m script some.events [] told.whole hold some.run told.is_whole)

-- ---- it was made, and then it ran

pub record Made (module_file script_file journal_file : List ℕ) (seed : ℕ) (old middle between made : Outside) (m : Module) (script : ScriptValue) : Type 0 where
  pub both : ReadBoth module_file script_file journal_file seed old middle between m script
  pub makes : MakesFile {T = Unit {0}} {E = WriteFail} between made journal_file (Ok tt)

-- what the file holds after so much was appended
pub filed_now : (module_file script_file journal_file : List ℕ) (seed : ℕ) (old middle between made new : Outside) (m : Module) (script : ScriptValue) (filed text : List ℕ) → Made module_file script_file journal_file seed old middle between made m script → Puts made new filed text → Tells (with_file old.files journal_file filed) new.files
filed_now module_file script_file journal_file seed old middle between made new m script filed text h puts =
    let has = has_both module_file script_file journal_file seed old middle between m script h.both in
    made_with old.files made new journal_file filed h.makes.making
    (made_later old.files between.files made.files journal_file [] has.leaves.nothing.files h.makes.made) puts.files

pub printed_now : (module_file script_file journal_file : List ℕ) (seed : ℕ) (old middle between made new : Outside) (m : Module) (script : ScriptValue) (filed text : List ℕ) → Made module_file script_file journal_file seed old middle between made m script → Puts made new filed text → Tells (with_more old.printed text) new.printed
printed_now module_file script_file journal_file seed old middle between made new m script filed text h puts =
    let has = has_both module_file script_file journal_file seed old middle between m script h.both in
    added_later old.printed made.printed new.printed text (Tells-trans old.printed between.printed made.printed has.leaves.printed h.makes.printed) puts.printed

asks_now : (module_file script_file journal_file : List ℕ) (seed : ℕ) (old middle between made new : Outside) (m : Module) (script : ScriptValue) (filed text : List ℕ) → Made module_file script_file journal_file seed old middle between made m script → Puts made new filed text → Asks (take 3 (file_words (Run module_file script_file journal_file seed))) old new
asks_now module_file script_file journal_file seed old middle between made new m script filed text h puts =
    let has = has_both module_file script_file journal_file seed old middle between m script h.both in
    Asks-same (take 3 (file_words (Run module_file script_file journal_file seed))) old made new
    (Asks-more (take 2 (file_words (Run module_file script_file journal_file seed))) ((journal_file, AskedMake) ∷ []) old between made has.asks (Asks-makes between made journal_file (Ok tt) h.makes))
    (Asks-puts made new filed text puts)

-- files that are told now were told when the journal was made
still_filed : (old : Option Files) (new : Option Files) (name filed : List ℕ) → Tells (with_file old name filed) new → (x : Files) → new ≡ Some x → IsSome old
still_filed None new name filed tells x e = let none = tells.told x e in absurd (cc)
still_filed (Some files) new name filed tells x e = refl

pub still_made : (module_file script_file journal_file : List ℕ) (seed : ℕ) (old middle between made new : Outside) (m : Module) (script : ScriptValue) (filed text : List ℕ) → Made module_file script_file journal_file seed old middle between made m script → Puts made new filed text → (x : Files) → new.files ≡ Some x → IsSome between.files
still_made module_file script_file journal_file seed old middle between made new m script filed text h puts =
    still_filed between.files new.files journal_file filed
    (made_with between.files made new journal_file filed h.makes.making h.makes.made puts.files)

rose_now : (module_file script_file journal_file : List ℕ) (seed : ℕ) (old middle between made new : Outside) (m : Module) (script : ScriptValue) → Made module_file script_file journal_file seed old middle between made m script → Rose made.write_faults new.write_faults → Rose old.write_faults new.write_faults
rose_now module_file script_file journal_file seed old middle between made new m script h rose =
    let has = has_both module_file script_file journal_file seed old middle between m script h.both in
    Rose-later old.write_faults made.write_faults new.write_faults (let before = has.asks.write_faults in let then = h.makes.write_faults in omega (arith, before, then)) rose

-- what stands in the file and was printed where a write failed
pub stops_early : (module_file script_file journal_file : List ℕ) (seed : ℕ) (old middle between made new : Outside) (m : Module) (script : ScriptValue) (tracers left : List Meaning) → Made module_file script_file journal_file seed old middle between made m script → HeaderIsCut tracers left made new → StopsEarly journal_file old new
stops_early module_file script_file journal_file seed old middle between made new m script tracers left h early = record {
  part = early.part;
  prefix = early.prefix;
  files = inr (filed_now module_file script_file journal_file seed old middle between made new m script early.part [] h early.puts);
  printed =
      subst (λ (o : Option (List ℕ)). Tells o new.printed) (more_none old.printed)
      (printed_now module_file script_file journal_file seed old middle between made new m script early.part [] h early.puts);
}
  where
    more_none : (told : Option (List ℕ)) → with_more told [] ≡ told
    more_none None = refl
    more_none (Some text) = ap Some (append-nil text)

abbrev pub stops_between : (module_file script_file journal_file : List ℕ) (seed : ℕ) (old middle between made new : Outside) (m : Module) (script : ScriptValue) (events : List Event) (tracers left : List Meaning) → Made module_file script_file journal_file seed old middle between made m script → IsCut m (first m script) events tracers left made new → StopsBetween m (first m script) events tracers journal_file old new
stops_between module_file script_file journal_file seed old middle between made new m script events tracers left h cut = record {
  done = cut.done;
  rest = cut.rest;
  whole = cut.whole;
  filed = cut.filed;
  next = cut.next;
  text = cut.text;
  filed_prefix = cut.filed_prefix;
  is_next = cut.is_next;
  text_prefix = cut.text_prefix;
  in_order = cut.in_order;
  files = filed_now module_file script_file journal_file seed old middle between made new m script (journal cut.done ++ cut.filed) (events_text m (first m script) cut.done ++ cut.text) h cut.puts;
  printed = printed_now module_file script_file journal_file seed old middle between made new m script (journal cut.done ++ cut.filed) (events_text m (first m script) cut.done ++ cut.text) h cut.puts;
}

-- it ran to the end, whatever was written and printed
run_done : (module_file script_file journal_file : List ℕ) (seed : ℕ) (old new : Outside) (text bytes : List ℕ) → Asks (take 3 (file_words (Run module_file script_file journal_file seed))) old new → SaysRun module_file script_file journal_file seed old new text bytes → Tells (with_more old.printed text) new.printed → Tells (with_file old.files journal_file bytes) new.files → Does (Run module_file script_file journal_file seed) old new (Ok tt)
run_done module_file script_file journal_file seed old new text bytes asks says printed made = record {
  names = 3;
  asks = asks;
  all = refl;
  reads = λ none. absurd none;
  does = record {
    saying = says_both 3 text journal_file bytes;
    says = says;
    refused_is = refl;
    asks = refl;
    does = record { printed = printed; made = made };
  };
}

-- it ran to the end, or a write failed
pub runs_said : (module_file script_file journal_file : List ℕ) (seed : ℕ) (old middle between made new : Outside) (m : Module) (script : ScriptValue) (tracers left : List Meaning) (result : Result (Unit {0}) RunFault) → Made module_file script_file journal_file seed old middle between made m script → RunDoes m script seed tracers left made new result → Does (Run module_file script_file journal_file seed) old new (after_run result)
runs_said module_file script_file journal_file seed old middle between made new m script tracers left result h does = by result does
  where
    says : (filed shown : List ℕ) → Puts made new filed shown → (events : List Event) (text : List ℕ) → IsRun m script seed events → IsWhole m (first m script) events tracers text → Says (Run module_file script_file journal_file seed) (told_before old new) (says_both 3 text journal_file (journal events))
    says filed shown puts events text run whole =
        run_says module_file script_file journal_file seed (told_before old new) m script events tracers text
        (holds_both module_file script_file journal_file seed old middle between new m script h.both (still_made module_file script_file journal_file seed old middle between made new m script filed shown h puts)) run whole

    early_cut : (events : List Event) → IsRun m script seed events → Rose made.write_faults new.write_faults → HeaderIsCut tracers left made new → Does (Run module_file script_file journal_file seed) old new (Err Write)
    early_cut events run rose early =
        let some = a_whole m (first m script) events tracers in
        let stops = stops_early module_file script_file journal_file seed old middle between made new m script tracers left h early in
        run_stops_early module_file script_file journal_file seed old new m script events tracers some.whole stops.part
        (asks_now module_file script_file journal_file seed old middle between made new m script early.part [] h early.puts)
        stops.prefix stops.files stops.printed
        (rose_now module_file script_file journal_file seed old middle between made new m script h rose) some.is_whole (says early.part [] early.puts events some.whole run some.is_whole)

    late_cut : (events : List Event) → IsRun m script seed events → Rose made.write_faults new.write_faults → (cut : IsCut m (first m script) events tracers left made new) → Begun m (first m script) events tracers (events_text m (first m script) cut.done ++ cut.text) → Does (Run module_file script_file journal_file seed) old new (Err Write)
    late_cut events run rose cut begun =
        let filed : List ℕ = journal cut.done ++ cut.filed in
        let shown : List ℕ = events_text m (first m script) cut.done ++ cut.text in
        let files = filed_now module_file script_file journal_file seed old middle between made new m script filed shown h cut.puts in
        let printed = printed_now module_file script_file journal_file seed old middle between made new m script filed shown h cut.puts in
        cut_off module_file script_file journal_file seed old new begun.whole (journal events)
        (asks_now module_file script_file journal_file seed old middle between made new m script filed shown h cut.puts)
        (rose_now module_file script_file journal_file seed old middle between made new m script h rose)
        (says filed shown cut.puts events begun.whole run begun.is_whole)
        (record { part = shown; prefix = begun.prefix; printed = printed })
        (record {
          part = filed;
          prefix = subst (λ (es : List Event). IsPrefix filed (journal es)) cut.whole (journal_part cut.done cut.rest cut.filed cut.filed_prefix);
          files = inr files;
        })
        (coupled_as m (first m script) events tracers journal_file begun.whole _ old new begun.is_whole refl
        (inr (stops_between module_file script_file journal_file seed old middle between made new m script events tracers left h cut)))

    cut_somewhere : (events : List Event) → IsRun m script seed events → Rose made.write_faults new.write_faults → HeaderIsCut tracers left made new ⊎ IsCut m (first m script) events tracers left made new → Does (Run module_file script_file journal_file seed) old new (Err Write)
    cut_somewhere events run rose (inl early) = early_cut events run rose early
    cut_somewhere events run rose (inr cut) =
        late_cut events run rose cut
        (subst (λ (es : List Event). Begun m (first m script) es tracers (events_text m (first m script) cut.done ++ cut.text)) cut.whole
        (text_part m (first m script) tracers cut.done cut.rest cut.next cut.text cut.is_next cut.text_prefix))

    ran : (events : List Event) (text : List ℕ) → IsRun m script seed events → IsWhole m (first m script) events tracers text → Puts made new (journal events) text → Does (Run module_file script_file journal_file seed) old new (Ok tt)
    ran events text run whole puts =
        run_done module_file script_file journal_file seed old new text (journal events)
        (asks_now module_file script_file journal_file seed old middle between made new m script _ _ h puts)
        (says _ _ puts events text run whole)
        (printed_now module_file script_file journal_file seed old middle between made new m script _ _ h puts)
        (filed_now module_file script_file journal_file seed old middle between made new m script _ _ h puts)

    by : (result : Result (Unit {0}) RunFault) → RunDoes m script seed tracers left made new result → Does (Run module_file script_file journal_file seed) old new (after_run result)
    by (Ok done) does =
        ran does.events (trace m (first m script) does.events ++ does.tally) does.run
        (record { tally = does.tally; is_tally = does.is_tally; is = refl }) does.puts
    by (Err WriteStop) does = cut_somewhere does.events does.run does.failed does.cut
    by (Err (LineStop line)) does = absurd does

-- the same, as the fault of the command, or the journal wasn't made, or there was no memory
pub runs_as : (module_file script_file journal_file : List ℕ) (seed : ℕ) (old middle between new : Outside) (m : Module) (script : ScriptValue) (tracers left : List Meaning) (result : Result (Unit {0}) Fault) → ReadBoth module_file script_file journal_file seed old middle between m script → RunsAs m script journal_file seed tracers left between new result → Does (Run module_file script_file journal_file seed) old new result
runs_as module_file script_file journal_file seed old middle between new m script tracers left result both did = by result did
  where
    ran : (result : Result (Unit {0}) RunFault) → RunsScript m script journal_file seed tracers left between new result → Does (Run module_file script_file journal_file seed) old new (after_run result)
    ran result runs =
        runs_said module_file script_file journal_file seed old middle between runs.made new m script tracers left result (record { both = both; makes = runs.makes }) runs.runs

    by : (result : Result (Unit {0}) Fault) → RunsAs m script journal_file seed tracers left between new result → Does (Run module_file script_file journal_file seed) old new result
    by (Ok done) runs = ran (Ok tt) runs
    by (Err Words) none = absurd none
    by (Err (Refused why)) none = absurd none
    by (Err Read) none = absurd none
    by (Err Write) (inl none) = run_unmade module_file script_file journal_file seed old middle between new m script none.why both none.makes
    by (Err Write) (inr runs) = ran (Err WriteStop) runs
    by (Err Memory) same =
        subst (λ (o : Outside). Does (Run module_file script_file journal_file seed) old o (Err Memory)) (sym same.0)
        (both_lack (Run module_file script_file journal_file seed) module_file script_file old middle between Accepts RefusesAsModule m (AcceptsScript m) (RefusesAsScript m) script both.first both.second)

-- what a run answers, as the fault of the command
pub run_answers : (m : Module) (script : ScriptValue) (journal_file : List ℕ) (seed words : ℕ) (tracers left : List Meaning) (old made new : Outside) (result : Result (Unit {0}) RunFault) → words ≡ seed → MakesFile {T = Unit {0}} {E = WriteFail} old made journal_file (Ok tt) → RunDoes m script words tracers left made new result → RunsAs m script journal_file seed tracers left old new (after_run result)
run_answers m script journal_file seed words tracers left old made new result same_words makes does = by result (subst (λ (x : ℕ). RunDoes m script x tracers left made new result) same_words does)
  where
    by : (result : Result (Unit {0}) RunFault) → RunDoes m script seed tracers left made new result → RunsAs m script journal_file seed tracers left old new (after_run result)
    by (Ok done) does = record { made = made; makes = makes; runs = does }
    by (Err WriteStop) does = inr (record { made = made; makes = makes; runs = does })
    by (Err (LineStop line)) does = absurd does

-- what a world that is new does is said of its module and script
pub run_said : (m n : Module) (script other : ScriptValue) (journal_file : List ℕ) (seed : ℕ) (tracers left : List Meaning) (old new : Outside) (result : Result (Unit {0}) Fault) → m ≡ n → script ≡ other → RunsAs m script journal_file seed tracers left old new result → RunsAs n other journal_file seed tracers left old new result
run_said m n script other journal_file seed tracers left old new result same_module same_script did =
    subst (λ (x : Module). RunsAs x other journal_file seed tracers left old new result) same_module
    (subst (λ (x : ScriptValue). RunsAs m x journal_file seed tracers left old new result) same_script did)
