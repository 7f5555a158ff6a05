-- The choice rule: what it chooses is legal, is one, is always there, and ends.
use Rattle.std.specs.Prelude.{◌≡◌, ◌≤◌, ⊤, ℕ, List, [], ◌∷◌, length, IsSome}
use Rattle.module_image.specs.Module.{Module, IsAccepted}
use Rattle.run_journal.specs.declared.event.Event.{Event}
use Rattle.script_text.specs.Laws.{IsScriptOf}
use Rattle.script_text.specs.Script.{ScriptValue}
use Rattle.switching.specs.Choice.{Choice, Chooser, IsChosen, Takes, chooser_after, chosen, first_chooser, most_events}
use Rattle.switching.specs.Journal.{IsFinished, IsLegal}
use Rattle.switching.specs.Laws.{IsReached}
use Rattle.switching.specs.State.{first}

-- the events that the rule takes one after the other, as far as they go
abbrev pub IsChosenSoFar : Module → Chooser → List Event → Type 0
IsChosenSoFar m ch [] = ⊤
IsChosenSoFar m ch (e ∷ events) =
    (choice : Choice) × (words : ℕ) × Takes m ch e choice words × IsChosenSoFar m (chooser_after m ch choice words e) events

-- each chosen event may come in its place, and a chosen journal is legal
abbrev pub ChosenAreLegal : Type 0
ChosenAreLegal =
    (m : Module) (script : ScriptValue) (seed : ℕ) (events : List Event) → IsChosen m (first_chooser m script seed) events
    → IsLegal m (first m script) events

-- one journal is chosen, so that a seed makes a run that can be had again
abbrev pub ChosenIsOne : Type 0
ChosenIsOne =
    (m : Module) (ch : Chooser) (events others : List Event) → IsChosen m ch events → IsChosen m ch others → events ≡ others

-- as long as the script isn't finished there is a choice
abbrev pub ChoiceIsThere : Type 0
ChoiceIsThere = (m : Module) (ch : Chooser) → IsReached m ch.state → (IsFinished ch.state → ⊥) → IsSome (chosen m ch)

-- a journal that is chosen is no longer than the limit
abbrev pub ChosenEnd : Type 0
ChosenEnd =
    (m : Module) (script : ScriptValue) (seed : ℕ) (events : List Event) → IsAccepted m → IsScriptOf m script
    → IsChosen m (first_chooser m script seed) events → length events ≤ most_events

-- nor are events that are chosen before the script is finished, so that no run goes on for ever
abbrev pub ChosenPrefixesEnd : Type 0
ChosenPrefixesEnd =
    (m : Module) (script : ScriptValue) (seed : ℕ) (events : List Event) → IsAccepted m → IsScriptOf m script
    → IsChosenSoFar m (first_chooser m script seed) events → length events ≤ most_events

-- a journal is chosen, whatever the seed
abbrev pub RunsAreThere : Type 0
RunsAreThere =
    (m : Module) (script : ScriptValue) (seed : ℕ) → IsAccepted m → IsScriptOf m script
    → (events : List Event) × IsChosen m (first_chooser m script seed) events
