-- Events that the rule takes one after the other, and the chooser that they lead to.
use Rattle.std.proofs.Common.{◌≡◌, ℕ, List, [], ◌∷◌, ◌++◌, sym, ap, subst}
use Rattle.module_image.specs.Module.{Module}
use Rattle.run_journal.specs.declared.event.Event.{Event}
use Rattle.switching.specs.Choice.{Choice, Chooser, IsChosen, Takes, chooser_after}
use Rattle.switching.specs.ChoiceLaws.{IsChosenSoFar}
use Rattle.switching.specs.Journal.{IsFinished, IsLegalSoFar}
use Rattle.switching.proofs.ChoiceLegal.{taken_may}
use Rattle.switching.proofs.ChoiceMarks.{Fit, marks_next}

abbrev pub Leads : Module → Chooser → List Event → Chooser → Type 0
Leads m ch [] last = last ≡ ch
Leads m ch (e ∷ events) last =
    (choice : Choice) × (words : ℕ) × Takes m ch e choice words × Leads m (chooser_after m ch choice words e) events last

pub leads_next : (m : Module) (ch : Chooser) (events : List Event) (last : Chooser) (e : Event) (choice : Choice) (words : ℕ) → Leads m ch events last → Takes m last e choice words → Leads m ch (events ++ e ∷ []) (chooser_after m last choice words e)
leads_next m ch [] last e choice words is takes =
    (choice, words, subst (λ (x : Chooser). Takes m x e choice words) is takes, ap (λ (x : Chooser). chooser_after m x choice words e) is)
leads_next m ch (f ∷ events) last e choice words (c, w, t, more) takes =
    (c, w, t, leads_next m (chooser_after m ch c w f) events last e choice words more takes)

pub leads_so_far : (m : Module) (ch : Chooser) (events : List Event) (last : Chooser) → Leads m ch events last → IsChosenSoFar m ch events
leads_so_far m ch [] last is = tt
leads_so_far m ch (e ∷ events) last (c, w, t, more) = (c, w, t, leads_so_far m (chooser_after m ch c w e) events last more)

pub leads_to_end : (m : Module) (ch : Chooser) (events : List Event) (last : Chooser) → Leads m ch events last → IsFinished last.state → IsChosen m ch events
leads_to_end m ch [] last is finished = subst (λ (x : Chooser). IsFinished x.state) is finished
leads_to_end m ch (e ∷ events) last (c, w, t, more) finished = (c, w, t, leads_to_end m (chooser_after m ch c w e) events last more finished)

pub leads_legal : (m : Module) (ch : Chooser) (events : List Event) (last : Chooser) → Fit ch.state → Leads m ch events last → IsLegalSoFar m ch.state events
leads_legal m ch [] last fit is = tt
leads_legal m ch (e ∷ events) last fit (c, w, t, more) =
    (taken_may m ch e c w fit t, leads_legal m (chooser_after m ch c w e) events last (marks_next m ch.state e fit) more)

pub leads_fit : (m : Module) (ch : Chooser) (events : List Event) (last : Chooser) → Fit ch.state → Leads m ch events last → Fit last.state
leads_fit m ch [] last fit is = subst (λ (x : Chooser). Fit x.state) (sym is) fit
leads_fit m ch (e ∷ events) last fit (c, w, t, more) = leads_fit m (chooser_after m ch c w e) events last (marks_next m ch.state e fit) more
