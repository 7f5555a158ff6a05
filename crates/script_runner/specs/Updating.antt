-- What the beginning of an update makes of keys and of the open update.
use Rattle.std.specs.Prelude.{◌≡◌, ◌≤◌, ℕ, Bool, true, false, List, [], ◌∷◌, length, Option, None, Ok}
use Rattle.key_state.specs.After.{after}
use Rattle.key_state.specs.Changes.{changes}
use Rattle.key_state.specs.Outcome.{ending_of}
use Rattle.module_parts.specs.declared.command.Command.{Command}
use Rattle.module_image.specs.Module.{Module, States}
use Rattle.poke_batch.specs.Clash.{CanPoke}
use Rattle.poke_batch.specs.Walk.{Walk, opened}
use Rattle.stale_fetch.specs.Windows.{WindowState, window_held}
use Rattle.switching.specs.Beginning.{Beginning, Goes, Refuses, beginning, clash_of_bytes}
use Rattle.switching.specs.Said.{TraceLine, Opens, Ends}
use Rattle.script_runner.specs.declared.updater.Begun.{Begun}
use Rattle.script_runner.specs.declared.updater.Begun.TheVariants as begun

-- what the update of a command finds
abbrev pub finds : Module → WindowState → States → Command → Beginning
finds m text states command = beginning m (clash_of_bytes (window_held text)) states command

abbrev pub states_begun : States → Beginning → States
states_begun old (Refuses ending) = old
states_begun old (Goes new changes) = new

abbrev pub update_begun : ℕ → Beginning → Option Walk
update_begun cpus (Refuses ending) = None
update_begun cpus (Goes new []) = None
update_begun cpus (Goes new (c ∷ changes)) = opened cpus (c ∷ changes)

-- what it shows
abbrev pub begun_lines : ℕ → Begun → List TraceLine
begun_lines update (begun.Ended outcome) = Ends update (ending_of outcome) ∷ []
begun_lines update (begun.Open sites) = Opens update sites ∷ []

abbrev pub is_ended : Begun → Bool
is_ended (begun.Ended outcome) = true
is_ended (begun.Open sites) = false

-- the changes that a command asks for can be poked, and there is room for them
pub record CanDo (m : Module) (text : WindowState) (sites : ℕ) (states new : States) : Type 0 where
  pub poke : CanPoke (window_held text) (changes m states new)
  pub few : length (changes m states new) ≤ sites

abbrev pub CanBegin : Module → WindowState → ℕ → States → Command → Type 0
CanBegin m text sites states command = (new : States) → after states command ≡ Ok new → CanDo m text sites states new
