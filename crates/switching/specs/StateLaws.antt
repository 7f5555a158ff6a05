-- What every state that a legal prefix leads to has, for whoever does the next event.
use Rattle.std.specs.Prelude.{◌≡◌, ◌<◌, ◌≤◌, ℕ, List, [], ◌∷◌, length, Option, None, Ok}
use Rattle.std.specs.List.{All}
use Rattle.key_state.specs.After.{after}
use Rattle.key_state.specs.Changes.{AreStatesOf, changes}
use Rattle.module_parts.specs.declared.command.Command.{Command}
use Rattle.module_image.specs.Module.{Module, States}
use Rattle.poke_batch.specs.declared.batch.Due.TheVariants as due
use Rattle.poke_batch.specs.Clash.{CanPoke}
use Rattle.poke_batch.specs.Walk.{Walk, due_of}
use Rattle.script_text.specs.declared.script.ScriptStep.{ScriptStep}
use Rattle.script_text.specs.declared.script.ScriptStep.TheVariants as step
use Rattle.script_text.specs.Laws.{IsStepOf}
use Rattle.script_text.specs.Script.{most_updates}
use Rattle.switching.specs.Laws.{IsReached}
use Rattle.switching.specs.State.{State, held_after, text_end}

-- of a `run` line in front not all turns are used, and of no other step is any
abbrev pub TurnsAreLeft : ℕ → List ScriptStep → Type 0
TurnsAreLeft used [] = used ≡ 0
TurnsAreLeft used (step.Update command ∷ rest) = used ≡ 0
TurnsAreLeft used (step.Run turns ∷ rest) = used < turns
TurnsAreLeft used (step.Drop place ∷ rest) = used ≡ 0

-- a byte that is due is one of the text
abbrev pub DuesAreInside : Module → Option Walk → Type 0
DuesAreInside m opened = (at byte : ℕ) → due_of opened ≡ due.Write at byte → (m.base ≤ at) × (at < text_end m)

-- the changes to some states can be poked, and there are at most as many as sites
pub record CanChangeTo (m : Module) (s : State) (new : States) : Type 0 where
  pub poke : CanPoke (held_after m s.writes) (changes m s.states new)
  pub few : length (changes m s.states new) ≤ length m.sites

abbrev pub UpdatesCanBegin : Module → State → Type 0
UpdatesCanBegin m s =
    (command : Command) (rest : List ScriptStep) (new : States) → s.opened ≡ None → s.steps ≡ step.Update command ∷ rest
    → after s.states command ≡ Ok new → CanChangeTo m s new

pub record IsReady (m : Module) (s : State) : Type 0 where
  -- keys and sites have states of the module, and the steps that are still to come are of it
  pub states : AreStatesOf m s.states
  pub steps : All (IsStepOf m) s.steps
  pub updates : s.updates ≤ most_updates
  pub turns : s.opened ≡ None → TurnsAreLeft s.turns s.steps
  pub dues : DuesAreInside m s.opened
  pub begins : UpdatesCanBegin m s

abbrev pub StatesAreReady : Type 0
StatesAreReady = (m : Module) (s : State) → IsReached m s → IsReady m s
