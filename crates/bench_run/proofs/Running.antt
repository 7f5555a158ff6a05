-- A machine that runs by the rule from its first event on, and the counts of the events so far.
use Rattle.std.proofs.Common.{◌≡◌, ◌∙◌, ◌<◌, ◌≤◌, ◌+◌, ◌-◌, ℕ, min, List, [], ◌∷◌, ◌++◌, Option, Some, None, MatchOption, refl, sym, ap, subst, arith}
use Rattle.module_image.specs.Module.{IsAccepted, Module}
use Rattle.run_journal.specs.declared.event.Event.{Event}
use Rattle.run_journal.specs.declared.event.Event.TheVariants.{Begin, Write, Request, Take, Return, Plain, At, Handle, Tick}
use Rattle.script_text.specs.Laws.{IsScriptOf}
use Rattle.script_text.specs.Script.{ScriptValue}
use Rattle.switching.specs.Choice.{Chooser, Takes, chooser_after, first_chooser, idle_after, most_events, most_idle}
use Rattle.switching.specs.ChoiceLaws.{ChosenPrefixesEnd}
use Rattle.switching.specs.Laws.{TracesAreSwitched}
use Rattle.switching.specs.May.{May}
use Rattle.switching.specs.Said.{TraceLine}
use Rattle.switching.specs.State.{first}
use Rattle.switching.specs.Switching as switching
use Rattle.switching.proofs.ChoiceLegal.{taken_may}
use Rattle.switching.proofs.ChoiceMarks.{Fit, marks_first}
use Rattle.script_runner.specs.declared.acted.Acted.{Acted}
use Rattle.script_runner.specs.Choosing.{Chooses, IsOver, TakesNext}
use Rattle.script_runner.specs.World.{Acts, Does, MayNot, StandsFor, WorldSeen}
use Rattle.bench_run.specs.declared.counts.Counts.{Counts}
use Rattle.bench_run.specs.Counts.{how_many, is_pass}
use Rattle.bench_run.specs.Counting.{AreFew, with_event}
use Rattle.bench_run.specs.Run.{IsRun}
use Rattle.bench_run.proofs.Counting.{Counted, counted_next, few_counted}
use Rattle.bench_run.proofs.Leading.{Leads, leads_fit, leads_legal, leads_next, leads_so_far, leads_to_end}
use Rattle.bench_run.proofs.Passes.{events_show}

pub record Running (m : Module) (script : ScriptValue) (seed : ℕ) (w : WorldSeen) (words : ℕ) (n : Counts) : Type 0 where
  pub image : w.image ≡ m
  pub events : List Event
  pub last : Chooser
  pub leads : Leads m (first_chooser m script seed) events last
  pub chooses : Chooses w words last
  pub counted : Counted events n

-- before the first event
pub running_first : (w : WorldSeen) (words : ℕ) (n : Counts) → StandsFor w (first w.image w.script) → w.idle ≡ 0 → Counted [] n → Running w.image w.script words w words n
running_first w words n stands idle counted = record {
  image = refl;
  events = [];
  last = first_chooser w.image w.script words;
  leads = refl;
  chooses = record { state = stands; idle = idle; words_are = refl };
  counted = counted;
}

-- ---- one event more

-- the count of idle events that stops at its limit goes on as the one that doesn't
idle_next : (e : Event) (kept idle : ℕ) → kept ≡ min idle most_idle → min (idle_after e kept) most_idle ≡ min (idle_after e idle) most_idle
idle_next Begin kept idle is = refl
idle_next Write kept idle is = refl
idle_next Request kept idle is = refl
idle_next (Take c) kept idle is = refl
idle_next Return kept idle is = refl
idle_next (Plain c) kept idle is = omega (arith, is)
idle_next (At c bytes) kept idle is = omega (arith, is)
idle_next (Handle c) kept idle is = omega (arith, is)
idle_next (Tick c) kept idle is = omega (arith, is)

chooses_next : (w v : WorldSeen) (words next : ℕ) (ch : Chooser) (e : Event) (text : List ℕ) (acted : Acted) → Chooses w words ch → (t : TakesNext w.image ch e next) → Does w e v text acted → Chooses v next (chooser_after w.image ch t.choice t.drawn e)
chooses_next w v words next ch e text acted h t does = record {
  state = does.stands ch.state h.state;
  idle = does.idle ∙ idle_next e w.idle ch.idle h.idle;
  words_are = t.words_are;
}

-- an event that may come was done
was_done : (w v : WorldSeen) (ch : Chooser) (e : Event) (text : List ℕ) (o : Option Acted) → StandsFor w ch.state → May w.image ch.state e → MatchOption o (MayNot w e v text) (Acts w e v text) → (acted : Acted) × Does w e v text acted
was_done w v ch e text None stands may done = absurd (done.not ch.state stands may)
was_done w v ch e text (Some acted) stands may done = (acted, done.does)

fit_last : (m : Module) (script : ScriptValue) (seed : ℕ) (w : WorldSeen) (words : ℕ) (n : Counts) → (h : Running m script seed w words n) → Fit h.last.state
fit_last m script seed w words n h = leads_fit m (first_chooser m script seed) h.events h.last (marks_first m script) h.leads

-- what the rule takes next
abbrev Next : WorldSeen → ℕ → Event → ℕ → Type 0
Next w words e next = (ch : Chooser) → Chooses w words ch → TakesNext w.image ch e next

pub running_next : (m : Module) (script : ScriptValue) (seed : ℕ) (w v : WorldSeen) (words next : ℕ) (n : Counts) (e : Event) (text : List ℕ) (o : Option Acted) → Running m script seed w words n → Next w words e next → MatchOption o (MayNot w e v text) (Acts w e v text) → Running m script seed v next (with_event n e)
running_next m script seed w v words next n e text o h takes done =
    let t : TakesNext w.image h.last e next = takes h.last h.chooses in
    let may : May w.image h.last.state e = taken_may w.image h.last e t.choice t.drawn (fit_last m script seed w words n h) t.takes in
    let was : (acted : Acted) × Does w e v text acted = was_done w v h.last e text o h.chooses.state may done in
    record {
      image = was.1.image ∙ h.image;
      events = h.events ++ e ∷ [];
      last = chooser_after w.image h.last t.choice t.drawn e;
      leads = subst (λ (x : Module). Leads m (first_chooser m script seed) (h.events ++ e ∷ []) (chooser_after x h.last t.choice t.drawn e)) (sym h.image)
          (leads_next m (first_chooser m script seed) h.events h.last e t.choice t.drawn h.leads (subst (λ (x : Module). Takes x h.last e t.choice t.drawn) h.image t.takes));
      chooses = chooses_next w v words next h.last e text was.0 h.chooses t was.1;
      counted = counted_next h.events n e h.counted;
    }

-- ---- no run goes on for ever

-- there are few events so far
short : ChosenPrefixesEnd → (m : Module) (script : ScriptValue) (seed : ℕ) (w : WorldSeen) (words : ℕ) (n : Counts) → IsAccepted m → IsScriptOf m script → Running m script seed w words n → n.events ≤ most_events
short law m script seed w words n accepted of h =
    let long = h.counted.events in
    let most = law m script seed h.events accepted of (leads_so_far m (first_chooser m script seed) h.events h.last h.leads) in
    omega (arith, long, most)

pub running_few : ChosenPrefixesEnd → (m : Module) (script : ScriptValue) (seed : ℕ) (w : WorldSeen) (words : ℕ) (n : Counts) → IsAccepted m → IsScriptOf m script → Running m script seed w words n → AreFew n
running_few law m script seed w words n accepted of h =
    few_counted h.events n h.counted (law m script seed h.events accepted of (leads_so_far m (first_chooser m script seed) h.events h.last h.leads))

pub running_smaller : ChosenPrefixesEnd → (m : Module) (script : ScriptValue) (seed : ℕ) (v : WorldSeen) (words : ℕ) (old new : Counts) (e : Event) → IsAccepted m → IsScriptOf m script → new ≡ with_event old e → Running m script seed v words (with_event old e) → most_events - new.events < most_events - old.events
running_smaller law m script seed v words old new e accepted of is h =
    let most : old.events + 1 ≤ most_events = short law m script seed v words (with_event old e) accepted of h in
    let one : new.events ≡ old.events + 1 = ap (λ (n : Counts). n.events) is in
    omega (arith, most, one)

-- ---- the end of the run

pub running_ends : TracesAreSwitched → (m : Module) (script : ScriptValue) (seed : ℕ) (w : WorldSeen) (words next : ℕ) (n : Counts) → IsAccepted m → IsScriptOf m script → Running m script seed w words n → ((ch : Chooser) → Chooses w words ch → IsOver ch next) → IsRun m script seed n
running_ends law m script seed w words next n accepted of h over =
    let finished = (over h.last h.chooses).finished in
    let legal = leads_legal m (first_chooser m script seed) h.events h.last (marks_first m script) h.leads in
    let switches = law m script h.events accepted of legal in
    record {
      events = h.events;
      chosen = leads_to_end m (first_chooser m script seed) h.events h.last h.leads finished;
      are = record {
        updates = h.counted.updates;
        writes = h.counted.writes;
        requests = h.counted.requests;
        takes = h.counted.takes;
        passes =
            h.counted.passes
            ∙ sym (ap (λ (ls : List TraceLine). how_many is_pass ls) switches.same ∙ events_show m (switching.first m script) h.events switches.defined);
        traps = h.counted.traps;
        events = h.counted.events;
      };
    }
