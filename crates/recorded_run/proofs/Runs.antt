-- A run, event by event: the loop over the events that are chosen, and what comes before and after it.
use Rattle.std.proofs.Common.{◌≡◌, ◌∙◌, inl, inr, ◌+◌, ◌≤◌, ℕ, min, List, [], ◌∷◌, ◌++◌, length, Option, Some, Result, Ok, Err, refl, sym, ap, subst, arith, append-nil, append_assoc, length-append}
use Rattle.std.specs.List.{flat_map}
use Rattle.std.specs.Result.{IsErr, IsErrAnd}
use Rattle.std.proofs.Math.Seq.{take-length}
use Rattle.std.proofs.lemmas.List.{flat_map_more}
use Rattle.module_image.specs.Module.{IsAccepted, Module}
use Rattle.poke_base.specs.declared.host.WriteFail.{WriteFail}
use Rattle.poke_base.specs.Host.{Appends, Outside, Prints}
use Rattle.poke_base.specs.Text.{IsPrefix}
use Rattle.poke_base.proofs.Outsides.{Rose-later}
use Rattle.run_journal.specs.declared.event.Event.{Event}
use Rattle.run_journal.specs.declared.event.Event.TheVariants.{Begin, Write, Request, Take, Return, Plain, At, Handle, Tick}
use Rattle.run_journal.specs.Spelling.{event_line, header, journal}
use Rattle.script_text.specs.Laws.{IsScriptOf}
use Rattle.script_text.specs.Script.{ScriptValue}
use Rattle.switching.specs.Choice.{Chooser, IsChosen, chooser_after, first_chooser, idle_after, most_idle}
use Rattle.switching.specs.Journal.{after, lines}
use Rattle.switching.specs.May.{May}
use Rattle.switching.specs.Next.{next}
use Rattle.switching.specs.Said.{TraceLine, said}
use Rattle.switching.specs.State.{State, first}
use Rattle.switching.proofs.ChoiceLegal.{chosen_are_legal}
use Rattle.switching.proofs.ChoiceRuns.{runs_are_there}
use Rattle.script_runner.specs.declared.acted.Acted.{Acted}
use Rattle.script_runner.specs.Choosing.{Chooses, IsOver, TakesNext}
use Rattle.script_runner.specs.Operations.{Operation, operations, operations_of}
use Rattle.script_runner.specs.TraceText.{trace_text}
use Rattle.script_runner.specs.World.{Acts, IsWorld, StandsFor, WorldSeen}
use Rattle.tracer_ops.specs.Meaning.{Meaning}
use Rattle.tracer_ops.specs.Tracers.{AreAs}
use Rattle.recorded_run.specs.declared.fault.RunFault.{RunFault}
use Rattle.recorded_run.specs.declared.fault.RunFault.TheVariants.{Write as WriteFault, Line as LineFault}
use Rattle.recorded_run.specs.declared.tracing.Dropped.{Dropped}
use Rattle.recorded_run.specs.Fed.{Fed, fed, fed_events}
use Rattle.recorded_run.specs.Puts.{Puts}
use Rattle.recorded_run.specs.Running.{IsRun, RunDoes, RunsPart, RunsWhole}
use Rattle.recorded_run.specs.Shown.{Shows, dropped_by, places}
use Rattle.recorded_run.specs.Stepping.{CanDo, CutsEvent, DoesEvent, EventsCut, EventsDone, Feeds, RecordsEvent, RecordsEvents, Tracing}
use Rattle.recorded_run.specs.Trace.{event_text, events_text, sites_text, trace}
use Rattle.recorded_run.specs.Underway.{HasDone}
use Rattle.recorded_run.proofs.Drops.{acted_places, drops_many, few_drops}
use Rattle.recorded_run.proofs.EndTexts.{EndOf, PrintsEnd, end_printed}
use Rattle.recorded_run.proofs.Events.{events_text_push, fed_events_push}
use Rattle.recorded_run.proofs.Feeding.{is_handed}
use Rattle.recorded_run.proofs.Headline.{legal_runs_are_whole}
use Rattle.recorded_run.proofs.HasLine.{may_has_line}
use Rattle.recorded_run.proofs.Leads.{Leads, goes_on, leads_chosen, leads_few, leads_may, leads_more, leads_reached, leads_state}
use Rattle.recorded_run.proofs.Puts.{appends_part, prints_part, puts_appended, puts_more, puts_none, puts_printed}

-- ---- one event

-- it was done, all was written, and the tracers were told
pub event_done : (w v : WorldSeen) (e : Event) (text : List ℕ) (did : Acted) (was now : Tracing) (old middle new : Outside) → Appends {T = Unit {0}} {E = WriteFail} old middle (event_line e) (Ok tt) → Acts w e v text did → Prints {T = Unit {0}} {E = WriteFail} middle new text (Ok tt) → ((f : Fed) → Feeds f was → Feeds (fed f (operations_of did)) now) → DoesEvent w e v was now old new
event_done w v e text did was now old middle new appends acts prints told = record {
  image = acts.does.image;
  idle = acts.does.idle;
  stands = acts.does.stands;
  fed = λ s f stands feeds.
      subst (λ (os : List Operation). Feeds (fed f os) now) (acts.does.acted_is s stands) (told f feeds);
  puts = λ s stands.
      let both : Puts old new (event_line e ++ []) text = puts_more old middle new (event_line e) [] [] text (puts_appended old middle (event_line e) tt appends) (puts_printed middle new text tt prints) in
      subst (λ (filed : List ℕ). Puts old new filed (event_text w.image s e)) (append-nil (event_line e))
      (subst (λ (shown : List ℕ). Puts old new (event_line e ++ []) shown) (acts.does.text_is s stands) both);
}

-- what was done of an event that came
pub shown_some : (w v : WorldSeen) (e : Event) (old new : Outside) (shown : Option Acted) (did : Acted) → shown ≡ Some did → Shows w e v old new (Ok shown) → Shows w e v old new (Ok (Some did))
shown_some w v e old new shown did is shows = subst (λ (o : Option Acted). Shows w e v old new (Ok o)) is shows

-- its line wasn't appended whole
pub line_cut : (w : WorldSeen) (e : Event) (why : WriteFail) (was : Tracing) (old new : Outside) → Appends {T = Unit {0}} {E = WriteFail} old new (event_line e) (Err why) → CutsEvent w e was was old new
line_cut w e why was old new appends =
    let part = appends_part old new (event_line e) why appends in
    record {
      filed = part.done;
      text = [];
      filed_prefix = part.prefix;
      text_prefix = λ s stands. refl;
      in_order = λ some. absurd (some refl);
      puts = part.puts;
      untold = refl;
      failed = part.failed;
    }

-- what it shows wasn't printed whole
pub text_cut : (w v : WorldSeen) (e : Event) (text : List ℕ) (did : Acted) (why : WriteFail) (was : Tracing) (old middle new : Outside) → Appends {T = Unit {0}} {E = WriteFail} old middle (event_line e) (Ok tt) → Acts w e v text did → Prints {T = Unit {0}} {E = WriteFail} middle new text (Err why) → CutsEvent w e was was old new
text_cut w v e text did why was old middle new appends acts prints =
    let part = prints_part middle new text why prints in
    let filed = puts_appended old middle (event_line e) tt appends in
    record {
      filed = event_line e ++ [];
      text = part.done;
      filed_prefix = subst (λ (line : List ℕ). IsPrefix line (event_line e)) (sym (append-nil (event_line e))) (whole_prefix (event_line e));
      text_prefix = λ s stands. subst (λ (shown : List ℕ). IsPrefix part.done shown) (acts.does.text_is s stands) part.prefix;
      in_order = λ some. append-nil (event_line e);
      puts = puts_more old middle new (event_line e) [] [] part.done filed part.puts;
      untold = refl;
      failed = Rose-later old.write_faults middle.write_faults new.write_faults filed.write_faults part.failed;
    }
  where
    whole_prefix : (line : List ℕ) → IsPrefix line line
    whole_prefix line = take-length line

-- there is room for what it drops
pub drop_room : (w v : WorldSeen) (e : Event) (text : List ℕ) (did : Acted) (drops : List Dropped) → CanDo w e drops → Acts w e v text did → length drops + length (dropped_by did) ≤ 64
drop_room w v e text did drops can acts =
    let room = can.room in
    let same : length (dropped_by did) ≡ length (places (said w.image can.state e)) = ap length (acted_places w.image (said w.image can.state e) did (acts.does.acted_is can.state can.stands)) in
    omega (arith, room, same)

-- ---- one event more

-- the lines of events in the journal, with one more
pub filed_push : (events : List Event) (e : Event) → flat_map event_line events ++ event_line e ≡ flat_map event_line (events ++ e ∷ [])
filed_push events e = flat_map_more event_line [] events e

-- how many events have come since the last one of the patch: 16 stands for every greater number too
idle_min : (e : Event) (idle : ℕ) → min (idle_after e (min idle 16)) 16 ≡ min (idle_after e idle) 16
idle_min Begin idle = refl
idle_min Write idle = refl
idle_min Request idle = refl
idle_min (Take c) idle = refl
idle_min Return idle = refl
idle_min (Plain c) idle = grind arith
idle_min (At c bytes) idle = grind arith
idle_min (Handle c) idle = grind arith
idle_min (Tick c) idle = grind arith

-- ---- the events so far

pub record HasRun (m : Module) (script : ScriptValue) (seed : ℕ) (tracers : List Meaning) (old : Outside) (v : WorldSeen) (words : ℕ) (now : Tracing) (new : Outside) (turns : ℕ) : Type 0 where
  pub accepted : IsAccepted m
  pub script_of : IsScriptOf m script
  pub done : List Event
  pub last : Chooser
  pub turns_are : length done ≡ turns
  pub image : v.image ≡ m
  pub leads : Leads m (first_chooser m script seed) done last
  pub chooses : Chooses v words last
  pub fed : Feeds (fed_events m (first m script) done tracers) now
  pub puts : Puts old new (flat_map event_line done) (events_text m (first m script) done)

pub run_begun : (w : WorldSeen) (words : ℕ) (tracers : List Meaning) (drops : List Dropped) (o : Outside) → IsWorld w → StandsFor w (first w.image w.script) → w.idle ≡ 0 → drops ≡ [] → HasRun w.image w.script words tracers o w words (record { tracers = tracers; drops = drops }) o 0
run_begun w words tracers drops o h stands idle none = record {
  accepted = h.reached.accepted;
  script_of = h.script_of;
  done = [];
  last = first_chooser w.image w.script words;
  turns_are = refl;
  image = refl;
  leads = refl;
  chooses = record { state = stands; idle = idle; words_are = refl };
  fed = is_handed tracers drops none;
  puts = puts_none o;
}

-- the event that is taken next, of the module
taken_of : (m : Module) (script : ScriptValue) (seed : ℕ) (tracers : List Meaning) (old : Outside) (v : WorldSeen) (words : ℕ) (now : Tracing) (new : Outside) (turns : ℕ) (h : HasRun m script seed tracers old v words now new turns) (e : Event) (rest : ℕ) → TakesNext v.image h.last e rest → TakesNext m h.last e rest
taken_of m script seed tracers old v words now new turns h e rest takes =
    subst (λ (x : Module). TakesNext x h.last e rest) h.image takes

-- what an event shows in the state that the machine stands for
here_said : (m : Module) (script : ScriptValue) (seed : ℕ) (tracers : List Meaning) (old : Outside) (v : WorldSeen) (words : ℕ) (now : Tracing) (new : Outside) (turns : ℕ) (h : HasRun m script seed tracers old v words now new turns) (e : Event) → said v.image h.last.state e ≡ said m (after m (first m script) h.done) e
here_said m script seed tracers old v words now new turns h e =
    ap (λ (x : Module). said x h.last.state e) h.image
    ∙ ap (λ (s : State). said m s e) (leads_state m (first_chooser m script seed) h.last h.done h.leads)

-- and does
here_done : (m : Module) (script : ScriptValue) (seed : ℕ) (tracers : List Meaning) (old : Outside) (v : WorldSeen) (words : ℕ) (now : Tracing) (new : Outside) (turns : ℕ) (h : HasRun m script seed tracers old v words now new turns) (e : Event) → operations v.image (said v.image h.last.state e) ≡ operations m (said m (after m (first m script) h.done) e)
here_done m script seed tracers old v words now new turns h e =
    ap (λ (x : Module). operations x (said v.image h.last.state e)) h.image
    ∙ ap (λ (ls : List TraceLine). operations m ls) (here_said m script seed tracers old v words now new turns h e)

-- the event that is taken next can be done
pub run_can : (m : Module) (script : ScriptValue) (seed : ℕ) (tracers : List Meaning) (old : Outside) (v : WorldSeen) (words : ℕ) (now : Tracing) (new : Outside) (turns : ℕ) (h : HasRun m script seed tracers old v words now new turns) (e : Event) (rest : ℕ) → TakesNext v.image h.last e rest → CanDo v e now.drops
run_can m script seed tracers old v words now new turns h e rest takes =
    let taken = taken_of m script seed tracers old v words now new turns h e rest takes in
    let may : May m h.last.state e = leads_may m script seed h.last h.done e taken.choice taken.drawn h.leads taken.takes in
    let few = few_drops m script h.done e h.script_of in
    let kept : length now.drops ≡ length (places (lines m (first m script) h.done)) = drops_many m (lines m (first m script) h.done) tracers now h.fed in
    let one : length (places (said v.image h.last.state e)) ≡ length (places (said m (after m (first m script) h.done) e)) =
    ap (λ (ls : List TraceLine). length (places ls)) (here_said m script seed tracers old v words now new turns h e) in
    record {
      state = h.last.state;
      stands = h.chooses.state;
      may = subst (λ (x : Module). May x h.last.state e) (sym h.image) may;
      has_line = may_has_line m h.last.state e (leads_reached m script seed h.last h.done h.accepted h.script_of h.leads) may;
      room = omega (arith, few, kept, one);
    }

-- it was done
pub run_more : (m : Module) (script : ScriptValue) (seed : ℕ) (tracers : List Meaning) (old : Outside) (v : WorldSeen) (words : ℕ) (now : Tracing) (middle : Outside) (turns : ℕ) (h : HasRun m script seed tracers old v words now middle turns) (e : Event) (rest : ℕ) (u : WorldSeen) (later : Tracing) (new : Outside) → TakesNext v.image h.last e rest → DoesEvent v e u now later middle new → HasRun m script seed tracers old u rest later new (turns + 1)
run_more m script seed tracers old v words now middle turns h e rest u later new takes does =
    let taken = taken_of m script seed tracers old v words now middle turns h e rest takes in
    let long : length (h.done ++ e ∷ []) ≡ length h.done + 1 = length-append h.done (e ∷ []) in
    let shown : said v.image h.last.state e ≡ said m (after m (first m script) h.done) e = here_said m script seed tracers old v words now middle turns h e in
    let both = puts_more old middle new (flat_map event_line h.done) (events_text m (first m script) h.done) (event_line e) (event_text v.image h.last.state e) h.puts (does.puts h.last.state h.chooses.state) in
    record {
      accepted = h.accepted;
      script_of = h.script_of;
      done = h.done ++ e ∷ [];
      last = chooser_after m h.last taken.choice taken.drawn e;
      turns_are = long ∙ ap (λ (n : ℕ). n + 1) h.turns_are;
      image = does.image ∙ h.image;
      leads = leads_more m (first_chooser m script seed) h.last h.done e taken.choice taken.drawn h.leads taken.takes;
      chooses = record {
        state = subst (λ (x : Module). StandsFor u (next x h.last.state e)) h.image (does.stands h.last.state h.chooses.state);
        idle = does.idle ∙ ap (λ (n : ℕ). min (idle_after e n) most_idle) h.chooses.idle ∙ idle_min e h.last.idle;
        words_are = taken.words_are;
      };
      fed =
          subst (λ (f : Fed). Feeds f later)
          (ap (λ (os : List Operation). fed (fed_events m (first m script) h.done tracers) os) (here_done m script seed tracers old v words now middle turns h e)
          ∙ sym (fed_events_push m (first m script) h.done e tracers))
          (does.fed h.last.state (fed_events m (first m script) h.done tracers) h.chooses.state h.fed);
      puts =
          subst (λ (filed : List ℕ). Puts old new filed (events_text m (first m script) (h.done ++ e ∷ []))) (filed_push h.done e)
          (subst (λ (text : List ℕ). Puts old new (flat_map event_line h.done ++ event_line e) text) (ap (λ (ls : List TraceLine). events_text m (first m script) h.done ++ trace_text ls) shown ∙ sym (events_text_push m (first m script) h.done e)) both);
    }

-- nothing is left to choose
pub run_over : (m : Module) (script : ScriptValue) (seed : ℕ) (tracers : List Meaning) (old : Outside) (v : WorldSeen) (words : ℕ) (now : Tracing) (new : Outside) (turns : ℕ) (h : HasRun m script seed tracers old v words now new turns) (rest : ℕ) → IsOver h.last rest → EventsDone m script seed tracers v now old new
run_over m script seed tracers old v words now new turns h rest over = record {
  events = h.done;
  chosen = leads_chosen m (first_chooser m script seed) h.last h.done h.leads over.finished;
  image = h.image;
  stands = subst (λ (s : State). StandsFor v s) (leads_state m (first_chooser m script seed) h.last h.done h.leads) h.chooses.state;
  fed = h.fed;
  puts = h.puts;
}

-- a write failed
pub run_cut : (m : Module) (script : ScriptValue) (seed : ℕ) (tracers : List Meaning) (old : Outside) (v : WorldSeen) (words : ℕ) (now : Tracing) (middle : Outside) (turns : ℕ) (h : HasRun m script seed tracers old v words now middle turns) (e : Event) (rest : ℕ) (later : Tracing) (new : Outside) → TakesNext v.image h.last e rest → CutsEvent v e now later middle new → EventsCut m script seed tracers later.tracers old new
run_cut m script seed tracers old v words now middle turns h e rest later new takes cuts =
    let taken = taken_of m script seed tracers old v words now middle turns h e rest takes in
    let goes = goes_on m script seed h.last h.done e taken.choice taken.drawn h.accepted h.script_of h.leads taken.takes in
    record {
      done = h.done;
      event = e;
      rest = goes.later;
      chosen = subst (λ (events : List Event). IsChosen m (first_chooser m script seed) events) (sym goes.whole) goes.chosen;
      filed = cuts.filed;
      text = cuts.text;
      filed_prefix = cuts.filed_prefix;
      text_prefix = subst (λ (ls : List TraceLine). IsPrefix cuts.text (trace_text ls)) (here_said m script seed tracers old v words now middle turns h e) (cuts.text_prefix h.last.state h.chooses.state);
      in_order = cuts.in_order;
      fed = subst (λ (t : Tracing). AreAs t.tracers (fed_events m (first m script) h.done tracers).left) (sym cuts.untold) h.fed.left;
      puts = puts_more old middle new (flat_map event_line h.done) (events_text m (first m script) h.done) cuts.filed cuts.text h.puts cuts.puts;
      failed = Rose-later old.write_faults middle.write_faults new.write_faults h.puts.write_faults cuts.failed;
    }

-- there are no more than the limit
pub run_ends : (m : Module) (script : ScriptValue) (seed : ℕ) (tracers : List Meaning) (old : Outside) (v : WorldSeen) (words : ℕ) (now : Tracing) (new : Outside) (turns : ℕ) → HasRun m script seed tracers old v words now new turns → turns ≤ 8106496
run_ends m script seed tracers old v words now new turns h =
    let few : length h.done ≤ 8106496 = leads_few m script seed h.last h.done h.accepted h.script_of h.leads in
    let same = h.turns_are in
    omega (arith, few, same)

-- ---- a whole run

run_of : (m : Module) (script : ScriptValue) (seed : ℕ) (events : List Event) → IsChosen m (first_chooser m script seed) events → IsRun m script seed events
run_of m script seed events chosen = record { chosen = chosen; legal = chosen_are_legal m script seed events chosen }

-- the header wasn't appended whole
pub header_cut : (w : WorldSeen) (seed : ℕ) (tracers : List Meaning) (why : WriteFail) (old new : Outside) → IsWorld w → Appends {T = Unit {0}} {E = WriteFail} old new header (Err why) → RunsPart w.image w.script seed tracers tracers old new
header_cut w seed tracers why old new h appends =
    let there = runs_are_there w.image w.script seed h.reached.accepted h.script_of in
    let part = appends_part old new header why appends in
    record {
      events = there.0;
      run = run_of w.image w.script seed there.0 there.1;
      cut = inl (record { part = part.done; prefix = part.prefix; untold = refl; puts = part.puts });
      failed = part.failed;
    }

-- a write failed at an event
pub events_cut : (m : Module) (script : ScriptValue) (seed : ℕ) (tracers left : List Meaning) (old middle new : Outside) → Appends {T = Unit {0}} {E = WriteFail} old middle header (Ok tt) → EventsCut m script seed tracers left middle new → RunsPart m script seed tracers left old new
events_cut m script seed tracers left old middle new appends cut =
    let filed = puts_appended old middle header tt appends in
    let both = puts_more old middle new header [] (flat_map event_line cut.done ++ cut.filed) (events_text m (first m script) cut.done ++ cut.text) filed cut.puts in
    record {
      events = cut.done ++ cut.event ∷ cut.rest;
      run = run_of m script seed _ cut.chosen;
      cut = inr (record {
        done = cut.done;
        rest = cut.event ∷ cut.rest;
        whole = refl;
        filed = cut.filed;
        next = event_text m (after m (first m script) cut.done) cut.event;
        text = cut.text;
        filed_prefix = cut.filed_prefix;
        is_next = refl;
        text_prefix = cut.text_prefix;
        in_order = cut.in_order;
        fed = cut.fed;
        puts = subst (λ (journaled : List ℕ). Puts old new journaled (events_text m (first m script) cut.done ++ cut.text)) (sym (append_assoc header (flat_map event_line cut.done) cut.filed)) both;
      });
      failed = Rose-later old.write_faults middle.write_faults new.write_faults filed.write_faults cut.failed;
    }

-- all events were done, and their journal is whole
events_put : (m : Module) (script : ScriptValue) (seed : ℕ) (tracers : List Meaning) (v : WorldSeen) (now : Tracing) (old middle new : Outside) → Appends {T = Unit {0}} {E = WriteFail} old middle header (Ok tt) → (h : EventsDone m script seed tracers v now middle new) → Puts old new (journal h.events) (events_text m (first m script) h.events)
events_put m script seed tracers v now old middle new appends h =
    puts_more old middle new header [] (flat_map event_line h.events) (events_text m (first m script) h.events) (puts_appended old middle header tt appends) h.puts

-- what is printed at the end
end_of : (m : Module) (script : ScriptValue) (seed : ℕ) (tracers : List Meaning) (v : WorldSeen) (now : Tracing) (shown : List Dropped) (middle later new : Outside) (result : Result (Unit {0}) WriteFail) → (h : EventsDone m script seed tracers v now middle later) → shown ≡ now.drops → EndOf v shown now.tracers later new result → PrintsEnd m (first m script) h.events tracers later new result
end_of m script seed tracers v now shown middle later new result h same prints =
    let done : HasDone m (first m script) h.events tracers v now = record { image = h.image; stands = h.stands; fed = h.fed } in
    end_printed m (first m script) h.events tracers v now shown later new result done same prints

-- it wasn't printed whole
pub end_cut : (m : Module) (script : ScriptValue) (seed : ℕ) (tracers : List Meaning) (v : WorldSeen) (now : Tracing) (shown : List Dropped) (why : WriteFail) (old middle later new : Outside) → Appends {T = Unit {0}} {E = WriteFail} old middle header (Ok tt) → EventsDone m script seed tracers v now middle later → shown ≡ now.drops → EndOf v shown now.tracers later new (Err why) → RunsPart m script seed tracers now.tracers old new
end_cut m script seed tracers v now shown why old middle later new appends h same prints =
    let before = events_put m script seed tracers v now old middle later appends h in
    let end : PrintsEnd m (first m script) h.events tracers later new (Err why) = end_of m script seed tracers v now shown middle later new (Err why) h same prints in
    let text = sites_text m (after m (first m script) h.events) ++ end.tally in
    let part = prints_part later new text why end.prints in
    record {
      events = h.events;
      run = run_of m script seed h.events h.chosen;
      cut = inr (record {
        done = h.events;
        rest = [];
        whole = append-nil h.events;
        filed = [];
        next = text;
        text = part.done;
        filed_prefix = refl;
        is_next = (end.tally, end.is_tally, refl);
        text_prefix = part.prefix;
        in_order = λ some. refl;
        fed = h.fed.left;
        puts = puts_more old later new (journal h.events) (events_text m (first m script) h.events) [] part.done before part.puts;
      });
      failed = Rose-later old.write_faults later.write_faults new.write_faults before.write_faults part.failed;
    }

-- it was
pub end_done : (m : Module) (script : ScriptValue) (seed : ℕ) (tracers : List Meaning) (v : WorldSeen) (now : Tracing) (shown : List Dropped) (old middle later new : Outside) → IsAccepted m → IsScriptOf m script → Appends {T = Unit {0}} {E = WriteFail} old middle header (Ok tt) → EventsDone m script seed tracers v now middle later → shown ≡ now.drops → EndOf v shown now.tracers later new (Ok tt) → RunsWhole m script seed tracers now.tracers old new
end_done m script seed tracers v now shown old middle later new accepted of appends h same prints =
    let before = events_put m script seed tracers v now old middle later appends h in
    let end : PrintsEnd m (first m script) h.events tracers later new (Ok tt) = end_of m script seed tracers v now shown middle later new (Ok tt) h same prints in
    let run_is = run_of m script seed h.events h.chosen in
    let sites = sites_text m (after m (first m script) h.events) in
    let both = puts_more old later new (journal h.events) (events_text m (first m script) h.events) [] (sites ++ end.tally) before (puts_printed later new (sites ++ end.tally) tt end.prints) in
    record {
      events = h.events;
      run = run_is;
      headline = legal_runs_are_whole m script h.events accepted of run_is.legal;
      tally = end.tally;
      is_tally = end.is_tally;
      fed = h.fed.left;
      puts =
          subst (λ (filed : List ℕ). Puts old new filed (trace m (first m script) h.events ++ end.tally)) (append-nil (journal h.events))
          (subst (λ (text : List ℕ). Puts old new (journal h.events ++ []) text) (sym (append_assoc (events_text m (first m script) h.events) sites end.tally)) both);
    }

-- ---- a write that failed is the fault `Write`

pub write_failed : (m : Module) (script : ScriptValue) (seed : ℕ) (tracers left : List Meaning) (old new : Outside) (result : Result (Unit {0}) RunFault) → IsErr result → IsErrAnd result (λ why. why ≡ WriteFault) → RunsPart m script seed tracers left old new → RunDoes m script seed tracers left old new result
write_failed m script seed tracers left old new (Ok done) failed why part = absurd (cc)
write_failed m script seed tracers left old new (Err WriteFault) failed why part = part
write_failed m script seed tracers left old new (Err (LineFault line)) failed why part = (let other : LineFault line ≡ WriteFault = why in absurd (cc))

-- a failed write is the same whatever its error, which has one value
pub event_failed : (w v : WorldSeen) (e : Event) (was now : Tracing) (old new : Outside) (result : Result (Unit {0}) WriteFail) → IsErr result → CutsEvent w e was now old new → RecordsEvent w e v was now old new result
event_failed w v e was now old new (Ok done) failed cut = absurd (cc)
event_failed w v e was now old new (Err why) failed cut = cut

pub events_failed : (m : Module) (script : ScriptValue) (seed : ℕ) (tracers : List Meaning) (v : WorldSeen) (now : Tracing) (old new : Outside) (result : Result (Unit {0}) WriteFail) → IsErr result → EventsCut m script seed tracers now.tracers old new → RecordsEvents m script seed tracers v now old new result
events_failed m script seed tracers v now old new (Ok done) failed cut = absurd (cc)
events_failed m script seed tracers v now old new (Err why) failed cut = cut
