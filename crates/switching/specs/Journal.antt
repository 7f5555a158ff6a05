-- Legal journals of the byte machine, and their traces.
use Rattle.std.specs.Prelude.{◌≡◌, ⊤, List, [], ◌∷◌, ◌++◌, None}
use Rattle.module_image.specs.Module.{Module}
use Rattle.run_journal.specs.declared.event.Event.{Event}
use Rattle.switching.specs.May.{May}
use Rattle.switching.specs.Next.{next}
use Rattle.switching.specs.Said.{TraceLine, said}
use Rattle.switching.specs.State.{State}

-- the state after some events
abbrev pub after : Module → State → List Event → State
after m s [] = s
after m s (e ∷ events) = after m (next m s e) events

-- each event may come in its place
abbrev pub IsLegalSoFar : Module → State → List Event → Type 0
IsLegalSoFar m s [] = ⊤
IsLegalSoFar m s (e ∷ events) = May m s e × IsLegalSoFar m (next m s e) events

-- no step of the script is left, and no update is open
pub record IsFinished (s : State) : Type 0 where
  pub steps : s.steps ≡ []
  pub closed : s.opened ≡ None

-- each event may come in its place, and the script is finished after the last
pub record IsLegal (m : Module) (s : State) (events : List Event) : Type 0 where
  pub so_far : IsLegalSoFar m s events
  pub finished : IsFinished (after m s events)

-- all that the events show, in order
abbrev pub lines : Module → State → List Event → List TraceLine
lines m s [] = []
lines m s (e ∷ events) = said m s e ++ lines m (next m s e) events
