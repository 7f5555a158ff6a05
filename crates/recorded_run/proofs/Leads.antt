-- The events that the choice rule takes one after the other, and where they lead.
use Rattle.std.proofs.Common.{◌≡◌, ◌∙◌, ◌≤◌, ℕ, List, [], ◌∷◌, ◌++◌, length, refl, sym, ap, subst}
use Rattle.module_image.specs.Module.{IsAccepted, Module}
use Rattle.run_journal.specs.declared.event.Event.{Event}
use Rattle.script_text.specs.Laws.{IsScriptOf}
use Rattle.script_text.specs.Script.{ScriptValue}
use Rattle.switching.specs.Choice.{Choice, Chooser, IsChosen, Takes, chooser_after, first_chooser, most_events}
use Rattle.switching.specs.ChoiceLaws.{IsChosenSoFar}
use Rattle.switching.specs.Journal.{IsFinished, IsLegalSoFar, after}
use Rattle.switching.specs.Laws.{IsReached}
use Rattle.switching.specs.May.{May}
use Rattle.switching.specs.State.{first}
use Rattle.switching.proofs.ChoiceEnd.{chosen_prefixes_end}
use Rattle.switching.proofs.ChoiceLegal.{taken_may}
use Rattle.switching.proofs.ChoiceMarks.{Fit, marks_first, marks_next}
use Rattle.switching.proofs.ChoiceRuns.{runs_are_there}
use Rattle.recorded_run.proofs.HasLine.{finished_none}
use Rattle.recorded_run.proofs.OneEvent.{taken_one}

-- the events that the rule takes from one chooser lead to another
abbrev pub Leads : Module → Chooser → List Event → Chooser → Type 0
Leads m ch [] last = ch ≡ last
Leads m ch (e ∷ events) last =
    (choice : Choice) × (words : ℕ) × Takes m ch e choice words × Leads m (chooser_after m ch choice words e) events last

-- one more
pub leads_more : (m : Module) (ch last : Chooser) (events : List Event) (e : Event) (choice : Choice) (words : ℕ) → Leads m ch events last → Takes m last e choice words → Leads m ch (events ++ e ∷ []) (chooser_after m last choice words e)
leads_more m ch last [] e choice words leads takes = (
  choice,
  words,
  subst (λ (x : Chooser). Takes m x e choice words) (sym leads) takes,
  ap (λ (x : Chooser). chooser_after m x choice words e) leads,
)
leads_more m ch last (f ∷ events) e choice words (c, w, first, leads) takes =
    (c, w, first, leads_more m (chooser_after m ch c w f) last events e choice words leads takes)

-- the state there
pub leads_state : (m : Module) (ch last : Chooser) (events : List Event) → Leads m ch events last → last.state ≡ after m ch.state events
leads_state m ch last [] leads = ap (λ (x : Chooser). x.state) (sym leads)
leads_state m ch last (e ∷ events) (c, w, first, leads) = leads_state m (chooser_after m ch c w e) last events leads

leads_fit : (m : Module) (ch last : Chooser) (events : List Event) → Fit ch.state → Leads m ch events last → Fit last.state
leads_fit m ch last [] fit leads = subst (λ (x : Chooser). Fit x.state) leads fit
leads_fit m ch last (e ∷ events) fit (c, w, first, leads) =
    leads_fit m (chooser_after m ch c w e) last events (marks_next m ch.state e fit) leads

leads_legal : (m : Module) (ch last : Chooser) (events : List Event) → Fit ch.state → Leads m ch events last → IsLegalSoFar m ch.state events
leads_legal m ch last [] fit leads = tt
leads_legal m ch last (e ∷ events) fit (c, w, first, leads) =
    (taken_may m ch e c w fit first, leads_legal m (chooser_after m ch c w e) last events (marks_next m ch.state e fit) leads)

leads_so_far : (m : Module) (ch last : Chooser) (events : List Event) → Leads m ch events last → IsChosenSoFar m ch events
leads_so_far m ch last [] leads = tt
leads_so_far m ch last (e ∷ events) (c, w, first, leads) =
    (c, w, first, leads_so_far m (chooser_after m ch c w e) last events leads)

-- they are a journal, where the script is finished there
pub leads_chosen : (m : Module) (ch last : Chooser) (events : List Event) → Leads m ch events last → IsFinished last.state → IsChosen m ch events
leads_chosen m ch last [] leads done = subst (λ (x : Chooser). IsFinished x.state) (sym leads) done
leads_chosen m ch last (e ∷ events) (c, w, first, leads) done =
    (c, w, first, leads_chosen m (chooser_after m ch c w e) last events leads done)

-- the first of a run's events, and those after them
pub record IsBegunWith (m : Module) (last : Chooser) (done events : List Event) : Type 0 where
  pub rest : List Event
  pub whole : done ++ rest ≡ events
  pub chosen : IsChosen m last rest

-- every journal that the rule takes begins with events that it takes
leads_within : (m : Module) (ch last : Chooser) (done events : List Event) → Fit ch.state → Leads m ch done last → IsChosen m ch events → IsBegunWith m last done events
leads_within m ch last [] events fit leads chosen =
    record { rest = events; whole = refl; chosen = subst (λ (x : Chooser). IsChosen m x events) leads chosen }
leads_within m ch last (e ∷ done) [] fit (c, w, first, leads) chosen =
    absurd (finished_none m ch.state e chosen (taken_may m ch e c w fit first))
leads_within m ch last (e ∷ done) (f ∷ events) fit (c, w, first, leads) (c2, w2, first2, more) =
    let one = taken_one m ch e f c c2 w w2 first first2 in
    let too : IsChosen m (chooser_after m ch c w e) events =
    subst (λ (x : Choice). IsChosen m (chooser_after m ch x w e) events) one.choice_is
    (subst (λ (n : ℕ). IsChosen m (chooser_after m ch c2 n e) events) one.words_are
    (subst (λ (x : Event). IsChosen m (chooser_after m ch c2 w2 x) events) one.event_is more)) in
    let rest = leads_within m (chooser_after m ch c w e) last done events (marks_next m ch.state e fit) leads too in
    record {
      rest = rest.rest;
      whole = ap (λ (l : List Event). e ∷ l) rest.whole ∙ ap (λ (x : Event). x ∷ events) (sym one.event_is);
      chosen = rest.chosen;
    }

-- ---- from the first chooser on

pub leads_reached : (m : Module) (script : ScriptValue) (seed : ℕ) (last : Chooser) (events : List Event) → IsAccepted m → IsScriptOf m script → Leads m (first_chooser m script seed) events last → IsReached m last.state
leads_reached m script seed last events accepted is leads = record {
  accepted = accepted;
  script = script;
  is_script = is;
  events = events;
  legal = leads_legal m (first_chooser m script seed) last events (marks_first m script) leads;
  is = leads_state m (first_chooser m script seed) last events leads;
}

-- the event that is taken next may come
pub leads_may : (m : Module) (script : ScriptValue) (seed : ℕ) (last : Chooser) (events : List Event) (e : Event) (choice : Choice) (words : ℕ) → Leads m (first_chooser m script seed) events last → Takes m last e choice words → May m last.state e
leads_may m script seed last events e choice words leads takes =
    taken_may m last e choice words (leads_fit m (first_chooser m script seed) last events (marks_first m script) leads) takes

-- they end
pub leads_few : (m : Module) (script : ScriptValue) (seed : ℕ) (last : Chooser) (events : List Event) → IsAccepted m → IsScriptOf m script → Leads m (first_chooser m script seed) events last → length events ≤ most_events
leads_few m script seed last events accepted is leads =
    chosen_prefixes_end m script seed events accepted is (leads_so_far m (first_chooser m script seed) last events leads)

-- a run that begins with them, and goes on with the one that is taken next
pub record GoesOn (m : Module) (script : ScriptValue) (seed : ℕ) (done : List Event) (e : Event) : Type 0 where
  pub events : List Event
  pub chosen : IsChosen m (first_chooser m script seed) events
  pub later : List Event
  pub whole : done ++ e ∷ later ≡ events

goes_on_by : (m : Module) (script : ScriptValue) (seed : ℕ) (last : Chooser) (done events rest : List Event) (e : Event) (choice : Choice) (words : ℕ) → Fit last.state → Takes m last e choice words → IsChosen m (first_chooser m script seed) events → done ++ rest ≡ events → IsChosen m last rest → GoesOn m script seed done e
goes_on_by m script seed last done events [] e choice words fit takes chosen whole finished =
    absurd (finished_none m last.state e finished (taken_may m last e choice words fit takes))
goes_on_by m script seed last done events (f ∷ later) e choice words fit takes chosen whole (c, w, first, more) =
    record {
      events = events;
      chosen = chosen;
      later = later;
      whole = ap (λ (x : Event). done ++ x ∷ later) (sym (taken_one m last e f choice c words w takes first).event_is) ∙ whole;
    }

pub goes_on : (m : Module) (script : ScriptValue) (seed : ℕ) (last : Chooser) (done : List Event) (e : Event) (choice : Choice) (words : ℕ) → IsAccepted m → IsScriptOf m script → Leads m (first_chooser m script seed) done last → Takes m last e choice words → GoesOn m script seed done e
goes_on m script seed last done e choice words accepted is leads takes =
    let run = runs_are_there m script seed accepted is in
    let begun = leads_within m (first_chooser m script seed) last done run.0 (marks_first m script) leads run.1 in
    goes_on_by m script seed last done run.0 begun.rest e choice words (leads_fit m (first_chooser m script seed) last done (marks_first m script) leads) takes run.1 begun.whole begun.chosen
