-- A replay, event by event.
use Rattle.std.proofs.Common.{◌≡◌, ◌∙◌, ◌+◌, ◌≤◌, ℕ, List, [], ◌∷◌, ◌++◌, length, inl, inr, Option, Some, None, IfSome, Result, IsErrAnd, Ok, Err, refl, sym, ap, subst, arith, append_assoc}
use Rattle.std.proofs.lemmas.Result.{err_from_is_err_and}
use Rattle.module_image.specs.Module.{IsAccepted, Module}
use Rattle.poke_base.specs.declared.host.WriteFail.{WriteFail}
use Rattle.poke_base.specs.Host.{Outside, Prints}
use Rattle.poke_base.proofs.Outsides.{Rose-later}
use Rattle.run_journal.specs.declared.event.Event.{Event}
use Rattle.run_journal.specs.declared.reader.BadLine.{BadLine}
use Rattle.run_journal.specs.ReaderState.{ReaderState}
use Rattle.run_journal.specs.Reading.{IsBad, ReadsEnd, ReadsEvent, at_start}
use Rattle.script_runner.specs.declared.acted.Acted.{Acted}
use Rattle.script_runner.specs.Operations.{Operation, operations, operations_of}
use Rattle.script_runner.specs.World.{Acts, MayNot, StandsFor, WorldSeen}
use Rattle.script_runner.proofs.Reaching.{after_push, legal_push}
use Rattle.script_text.specs.Laws.{IsScriptOf}
use Rattle.script_text.specs.Script.{ScriptValue}
use Rattle.switching.specs.Journal.{IsFinished, after, lines}
use Rattle.switching.specs.May.{May}
use Rattle.switching.specs.Next.{next}
use Rattle.switching.specs.Said.{said}
use Rattle.switching.specs.State.{State, first}
use Rattle.tracer_ops.specs.Meaning.{Meaning}
use Rattle.recorded_run.specs.declared.fault.RunFault.{RunFault}
use Rattle.recorded_run.specs.declared.fault.RunFault.TheVariants.{Write as WriteFault, Line as LineFault}
use Rattle.recorded_run.specs.declared.tracing.Dropped.{Dropped}
use Rattle.recorded_run.specs.Fed.{Fed, fed, fed_events}
use Rattle.recorded_run.specs.Puts.{Puts}
use Rattle.recorded_run.specs.Replaying.{ReplayDoes, ReplaysPart, ReplaysTo, ReplaysWhole}
use Rattle.recorded_run.specs.Shown.{Shows, dropped_by, places}
use Rattle.recorded_run.specs.Stepping.{Feeds, Tracing}
use Rattle.recorded_run.specs.Trace.{event_text, events_text, sites_text}
use Rattle.recorded_run.specs.Underway.{HasDone, HasReplayed, IsUnderway, ReplaysEvents}
use Rattle.recorded_run.proofs.Drops.{acted_places, drops_many, few_drops}
use Rattle.recorded_run.proofs.EndTexts.{EndOf, PrintsEnd, end_printed}
use Rattle.recorded_run.proofs.Events.{events_text_push, fed_events_push}
use Rattle.recorded_run.proofs.Feeding.{is_handed}
use Rattle.recorded_run.proofs.Headline.{legal_runs_are_whole}
use Rattle.recorded_run.proofs.Puts.{PrintsPart, prints_part, puts_more, puts_none, puts_printed}
use Rattle.recorded_run.proofs.Readings.{reads_push}

-- before the first event
pub underway_first : (w : WorldSeen) (s : State) (text : List ℕ) (tracers : List Meaning) (drops : List Dropped) (o : Outside) → StandsFor w s → drops ≡ [] → IsUnderway w.image s text tracers (at_start text) w (record { tracers = tracers; drops = drops }) o o
underway_first w s text tracers drops o stands none = record {
  events = [];
  before = record { reads = refl; legal = tt };
  done = record { image = refl; stands = stands; fed = is_handed tracers drops none };
  puts = puts_none o;
}

-- what an event may do in a state, a machine that stands for it may do
may_now : (m : Module) (s : State) (events : List Event) (tracers : List Meaning) (w v : WorldSeen) (t : Tracing) (e : Event) (text : List ℕ) (did : Acted) → HasDone m s events tracers w t → Acts w e v text did → May m (after m s events) e
may_now m s events tracers w v t e text did h acts =
    subst (λ (n : Module). May n (after m s events) e) h.image (acts.may (after m s events) h.stands)

-- what it dropped
pub dropped_now : (m : Module) (s : State) (events : List Event) (tracers : List Meaning) (w v : WorldSeen) (t : Tracing) (e : Event) (text : List ℕ) (did : Acted) → HasDone m s events tracers w t → Acts w e v text did → dropped_by did ≡ places (said m (after m s events) e)
dropped_now m s events tracers w v t e text did h acts =
    subst (λ (n : Module). dropped_by did ≡ places (said n (after m s events) e)) h.image
    (acted_places w.image (said w.image (after m s events) e) did (acts.does.acted_is (after m s events) h.stands))

-- what it showed
text_now : (m : Module) (s : State) (events : List Event) (tracers : List Meaning) (w v : WorldSeen) (t : Tracing) (e : Event) (text : List ℕ) (did : Acted) → HasDone m s events tracers w t → Acts w e v text did → text ≡ event_text m (after m s events) e
text_now m s events tracers w v t e text did h acts =
    subst (λ (n : Module). text ≡ event_text n (after m s events) e) h.image (acts.does.text_is (after m s events) h.stands)

-- what it did to tracers
acted_now : (m : Module) (s : State) (events : List Event) (tracers : List Meaning) (w v : WorldSeen) (t : Tracing) (e : Event) (text : List ℕ) (did : Acted) → HasDone m s events tracers w t → Acts w e v text did → operations_of did ≡ operations m (said m (after m s events) e)
acted_now m s events tracers w v t e text did h acts =
    subst (λ (n : Module). operations_of did ≡ operations n (said n (after m s events) e)) h.image (acts.does.acted_is (after m s events) h.stands)

-- one event more was done, and the tracers were told
pub done_push : (m : Module) (s : State) (events : List Event) (tracers : List Meaning) (w v : WorldSeen) (t u : Tracing) (e : Event) (text : List ℕ) (did : Acted) → HasDone m s events tracers w t → Acts w e v text did → ((f : Fed) → Feeds f t → Feeds (fed f (operations_of did)) u) → HasDone m s (events ++ e ∷ []) tracers v u
done_push m s events tracers w v t u e text did h acts told =
    let stands : StandsFor v (next m (after m s events) e) = subst (λ (n : Module). StandsFor v (next n (after m s events) e)) h.image (acts.does.stands (after m s events) h.stands) in
    record {
      image = acts.does.image ∙ h.image;
      stands = subst (λ (x : State). StandsFor v x) (sym (after_push m s events e)) stands;
      fed =
          subst (λ (f : Fed). Feeds f u)
          (ap (λ (os : List Operation). fed (fed_events m s events tracers) os) (acted_now m s events tracers w v t e text did h acts)
          ∙ sym (fed_events_push m s events e tracers))
          (told (fed_events m s events tracers) h.fed);
    }

-- there is room for what it dropped
pub room_now : (m : Module) (script : ScriptValue) (text : List ℕ) (tracers : List Meaning) (reader : ReaderState) (w v : WorldSeen) (t : Tracing) (old new : Outside) (e : Event) (shown : List ℕ) (did : Acted) → IsScriptOf m script → IsUnderway m (first m script) text tracers reader w t old new → Acts w e v shown did → length t.drops + length (dropped_by did) ≤ 64
room_now m script text tracers reader w v t old new e shown did of h acts =
    let had : length t.drops ≡ length (places (lines m (first m script) h.events)) = drops_many m (lines m (first m script) h.events) tracers t h.done.fed in
    let more : length (dropped_by did) ≡ length (places (said m (after m (first m script) h.events) e)) =
    ap length (dropped_now m (first m script) h.events tracers w v t e shown did h.done acts) in
    let few = few_drops m script h.events e of in
    omega (arith, had, more, few)

-- the next event was read and done, and what it shows was printed
pub underway_push : (m : Module) (s : State) (text : List ℕ) (tracers : List Meaning) (reader after_it : ReaderState) (w v : WorldSeen) (t u : Tracing) (old middle new : Outside) (e : Event) (shown : List ℕ) (did : Acted) → IsUnderway m s text tracers reader w t old middle → ReadsEvent reader after_it e → Acts w e v shown did → Prints {T = Unit {0}} {E = WriteFail} middle new shown (Ok tt) → ((f : Fed) → Feeds f t → Feeds (fed f (operations_of did)) u) → IsUnderway m s text tracers after_it v u old new
underway_push m s text tracers reader after_it w v t u old middle new e shown did h reads acts prints told =
    let puts : Puts old new [] (events_text m s h.events ++ shown) = puts_more old middle new [] (events_text m s h.events) [] shown h.puts (puts_printed middle new shown tt prints) in
    record {
      events = h.events ++ e ∷ [];
      before = record {
        reads = reads_push (at_start text) h.events reader after_it e h.before.reads reads;
        legal = legal_push m s h.events e h.before.legal (may_now m s h.events tracers w v t e shown did h.done acts);
      };
      done = done_push m s h.events tracers w v t u e shown did h.done acts told;
      puts = subst (λ (x : List ℕ). Puts old new [] x)
          (ap (λ (x : List ℕ). events_text m s h.events ++ x) (text_now m s h.events tracers w v t e shown did h.done acts) ∙ sym (events_text_push m s h.events e))
          puts;
    }

-- of what it shows a prefix was printed
pub underway_cut : (m : Module) (s : State) (text : List ℕ) (tracers : List Meaning) (reader after_it : ReaderState) (w v : WorldSeen) (t : Tracing) (old middle new : Outside) (e : Event) (shown : List ℕ) (did : Acted) (why : WriteFail) → IsUnderway m s text tracers reader w t old middle → ReadsEvent reader after_it e → Acts w e v shown did → Prints {T = Unit {0}} {E = WriteFail} middle new shown (Err why) → ReplaysPart m s text tracers t.tracers old new
underway_cut m s text tracers reader after_it w v t old middle new e shown did why h reads acts prints =
    let part : PrintsPart middle new shown = prints_part middle new shown why prints in
    let earlier = h.puts.write_faults in
    let rose = part.failed in
    record {
      done = h.events;
      reader = reader;
      before = h.before;
      next = shown;
      is_next = inl (record {
        event = e;
        after_it = after_it;
        reads = reads;
        may = may_now m s h.events tracers w v t e shown did h.done acts;
        is = text_now m s h.events tracers w v t e shown did h.done acts;
      });
      part = part.done;
      prefix = part.prefix;
      fed = h.done.fed.left;
      puts = puts_more old middle new [] (events_text m s h.events) [] part.done h.puts part.puts;
      failed = Rose-later old.write_faults middle.write_faults new.write_faults earlier rose;
    }

-- the next line is none
pub refused_bad : (m : Module) (s : State) (text : List ℕ) (tracers : List Meaning) (reader : ReaderState) (w : WorldSeen) (t : Tracing) (old new : Outside) (bad : BadLine) → IsUnderway m s text tracers reader w t old new → IsBad reader bad → ReplaysTo m s text bad.line tracers t.tracers old new
refused_bad m s text tracers reader w t old new bad h is = record {
  events = h.events;
  is = record { reader = reader; before = h.before; refused = inl is };
  fed = h.done.fed.left;
  puts = h.puts;
}

-- the next event may not come
refused_next : (m : Module) (s : State) (text : List ℕ) (tracers : List Meaning) (reader after_it : ReaderState) (w v : WorldSeen) (t : Tracing) (old new : Outside) (e : Event) (shown : List ℕ) (line : ℕ) → IsUnderway m s text tracers reader w t old new → ReadsEvent reader after_it e → MayNot w e v shown → line ≡ after_it.taken → ReplaysTo m s text line tracers t.tracers old new
refused_next m s text tracers reader after_it w v t old new e shown line h reads not line_is = record {
  events = h.events;
  is = record {
    reader = reader;
    before = h.before;
    refused = inr (inl (record {
      event = e;
      next = after_it;
      reads = reads;
      not = subst (λ (n : Module). May n (after m s h.events) e → ⊥) h.done.image (not.not (after m s h.events) h.done.stands);
      line_is = line_is;
    }));
  };
  fed = h.done.fed.left;
  puts = h.puts;
}

-- so it was answered, and nothing was done
pub refused_none : (m : Module) (s : State) (text : List ℕ) (tracers : List Meaning) (reader after_it : ReaderState) (w v : WorldSeen) (t : Tracing) (old middle new : Outside) (e : Event) (found : Option Acted) (line : ℕ) → IsUnderway m s text tracers reader w t old middle → ReadsEvent reader after_it e → found ≡ None → Shows w e v middle new (Ok found) → line ≡ after_it.taken → ReplaysTo m s text line tracers t.tracers old new
refused_none m s text tracers reader after_it w v t old middle new e found line h reads none shows line_is =
    let not : Shows w e v middle new (Ok None) = subst (λ (o : Option Acted). Shows w e v middle new (Ok o)) none shows in
    refused_next m s text tracers reader after_it w v t old new e [] line
    (subst (λ (o : Outside). IsUnderway m s text tracers reader w t old o) (sym not.1) h) reads not.0 line_is

-- an event is missing
pub refused_end : (m : Module) (s : State) (text : List ℕ) (tracers : List Meaning) (reader end : ReaderState) (w : WorldSeen) (t : Tracing) (old new : Outside) (line : ℕ) → IsUnderway m s text tracers reader w t old new → ReadsEnd reader end → ((x : State) → StandsFor w x → IsFinished x → ⊥) → line ≡ end.taken → ReplaysTo m s text (line + 1) tracers t.tracers old new
refused_end m s text tracers reader end w t old new line h reads not line_is = record {
  events = h.events;
  is = record {
    reader = reader;
    before = h.before;
    refused = inr (inr (record {
      end = end;
      reads = reads;
      not = not (after m s h.events) h.done.stands;
      line_is = ap (λ (n : ℕ). n + 1) line_is;
    }));
  };
  fed = h.done.fed.left;
  puts = h.puts;
}

-- the text ends where the script is finished
pub replayed_whole : (m : Module) (s : State) (text : List ℕ) (tracers : List Meaning) (reader end : ReaderState) (w : WorldSeen) (t : Tracing) (old new : Outside) → IsUnderway m s text tracers reader w t old new → ReadsEnd reader end → ((x : State) → StandsFor w x → IsFinished x) → HasReplayed m s text tracers w t old new
replayed_whole m s text tracers reader end w t old new h reads finished = record {
  events = h.events;
  is = record {
    reads = (reader, end, h.before.reads, reads);
    legal = record { so_far = h.before.legal; finished = finished (after m s h.events) h.done.stands };
  };
  done = h.done;
  puts = h.puts;
}

-- ---- the end of the trace

pub ending_whole : (m : Module) (script : ScriptValue) (text : List ℕ) (tracers : List Meaning) (w : WorldSeen) (t : Tracing) (shown : List Dropped) (old middle new : Outside) → IsAccepted m → IsScriptOf m script → HasReplayed m (first m script) text tracers w t old middle → shown ≡ t.drops → EndOf w shown t.tracers middle new (Ok tt) → ReplaysWhole m script text tracers t.tracers old new
ending_whole m script text tracers w t shown old middle new accepted of h same prints =
    let s = first m script in
    let end : PrintsEnd m s h.events tracers middle new (Ok tt) = end_printed m s h.events tracers w t shown middle new (Ok tt) h.done same prints in
    let sites = sites_text m (after m s h.events) in
    let both = puts_more old middle new [] (events_text m s h.events) [] (sites ++ end.tally) h.puts (puts_printed middle new (sites ++ end.tally) tt end.prints) in
    record {
      events = h.events;
      is = h.is;
      headline = legal_runs_are_whole m script h.events accepted of h.is.legal;
      tally = end.tally;
      is_tally = end.is_tally;
      fed = h.done.fed.left;
      puts = subst (λ (x : List ℕ). Puts old new [] x) (sym (append_assoc (events_text m s h.events) sites end.tally)) both;
    }

pub ending_cut : (m : Module) (s : State) (text : List ℕ) (tracers : List Meaning) (w : WorldSeen) (t : Tracing) (shown : List Dropped) (old middle new : Outside) (why : WriteFail) → HasReplayed m s text tracers w t old middle → shown ≡ t.drops → EndOf w shown t.tracers middle new (Err why) → ReplaysPart m s text tracers t.tracers old new
ending_cut m s text tracers w t shown old middle new why h same prints =
    let end : PrintsEnd m s h.events tracers middle new (Err why) = end_printed m s h.events tracers w t shown middle new (Err why) h.done same prints in
    let next_text = sites_text m (after m s h.events) ++ end.tally in
    let part : PrintsPart middle new next_text = prints_part middle new next_text why end.prints in
    let earlier = h.puts.write_faults in
    let rose = part.failed in
    record {
      done = h.events;
      reader = h.is.reads.0;
      before = record { reads = h.is.reads.2; legal = h.is.legal.so_far };
      next = next_text;
      is_next = inr (record { replayed = h.is; tally = end.tally; is_tally = end.is_tally; is = refl });
      part = part.done;
      prefix = part.prefix;
      fed = h.done.fed.left;
      puts = puts_more old middle new [] (events_text m s h.events) [] part.done h.puts part.puts;
      failed = Rose-later old.write_faults middle.write_faults new.write_faults earlier rose;
    }

-- ---- what calls answer

-- what was found there is what was answered
pub found_it : {A : Type 0} (P : A → Type 0) (found : Option A) (x : A) → found ≡ Some x → IfSome found P → P x
found_it {A = A} P found x is h = subst (λ (o : Option A). IfSome o P) is h

-- an event that was answered to have done something was done and shown
pub acted_it : (w v : WorldSeen) (e : Event) (old new : Outside) (found : Option Acted) (did : Acted) → found ≡ Some did → Shows w e v old new (Ok found) → Shows w e v old new (Ok (Some did))
acted_it w v e old new found did is h = subst (λ (o : Option Acted). Shows w e v old new (Ok o)) is h

-- what was done before a fault is answered with it
pub events_fault : (m : Module) (s : State) (text : List ℕ) (tracers : List Meaning) (w : WorldSeen) (t : Tracing) (old new : Outside) (fault : RunFault) (result : Result (Unit {0}) RunFault) → IsErrAnd result (λ why. why ≡ fault) → ReplaysEvents m s text tracers w t old new (Err fault) → ReplaysEvents m s text tracers w t old new result
events_fault m s text tracers w t old new fault result is h =
    let p = err_from_is_err_and result is in
    subst (λ (r : Result (Unit {0}) RunFault). ReplaysEvents m s text tracers w t old new r) (sym p.1)
    (subst (λ (why : RunFault). ReplaysEvents m s text tracers w t old new (Err why)) (sym p.2) h)

pub replay_fault : (m : Module) (script : ScriptValue) (text : List ℕ) (tracers left : List Meaning) (old new : Outside) (fault : RunFault) (result : Result (Unit {0}) RunFault) → IsErrAnd result (λ why. why ≡ fault) → ReplayDoes m script text tracers left old new (Err fault) → ReplayDoes m script text tracers left old new result
replay_fault m script text tracers left old new fault result is h =
    let p = err_from_is_err_and result is in
    subst (λ (r : Result (Unit {0}) RunFault). ReplayDoes m script text tracers left old new r) (sym p.1)
    (subst (λ (why : RunFault). ReplayDoes m script text tracers left old new (Err why)) (sym p.2) h)

-- a replay that was cut or refused at its events does nothing further
pub events_stopped : (m : Module) (script : ScriptValue) (text : List ℕ) (tracers left : List Meaning) (w : WorldSeen) (drops : List Dropped) (old new : Outside) (fault : RunFault) → ReplaysEvents m (first m script) text tracers w (record { tracers = left; drops = drops }) old new (Err fault) → ReplayDoes m script text tracers left old new (Err fault)
events_stopped m script text tracers left w drops old new WriteFault h = h
events_stopped m script text tracers left w drops old new (LineFault line) h = h
