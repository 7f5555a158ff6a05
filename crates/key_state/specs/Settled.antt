-- What a contract sees of a module whose updates are settled at once.
use Rattle.std.specs.Prelude.{◌≡◌, ◌≤◌, ℕ, List, length}
use Rattle.insn_forms.specs.declared.forms.Change.{Change}
use Rattle.key_state.specs.Changes.{AreStatesOf}
use Rattle.key_state.specs.Outcome.{HoldsWanted}
use Rattle.module_image.specs.Module.{Module, States}

pub record SettledState : Type 0 where
  -- the address of the text's first byte, and the text
  pub base : ℕ
  pub text : List ℕ
  -- what keys and sites hold
  pub states : States
  -- the changes of the last update, none where it wasn't done, and how many there is room for
  pub changed : List Change
  pub room : ℕ

-- it is of this module: its text holds what the sites want
pub record IsSettledOf (m : Module) (settled : SettledState) : Type 0 where
  pub same_base : settled.base ≡ m.base
  pub states : AreStatesOf m settled.states
  pub text : HoldsWanted m settled.states settled.text
  pub room : length m.sites ≤ settled.room
