-- What `wants` prints: how each update of a script will end, and what every site will then hold.
use Rattle.std.specs.Prelude.{◌≡◌, ℕ, ◌+◌, List, [], ◌∷◌, ◌++◌}
use Rattle.key_state.specs.Outcome.{Ending, HoldsWanted, outcomes, states_after}
use Rattle.key_state.specs.OutcomeLine.{outcome_line}
use Rattle.module_image.specs.Held.{first_states}
use Rattle.module_image.specs.Module.{Module, States}
use Rattle.script_text.specs.Commands.{commands}
use Rattle.script_text.specs.Script.{ScriptValue}
use Rattle.module_image.specs.SiteLine.{site_lines}

-- a line for each update, by its number
abbrev pub outcome_lines : ℕ → List Ending → List ℕ
outcome_lines update [] = []
outcome_lines update (ending ∷ endings) = outcome_line update ending ++ outcome_lines (update + 1) endings

-- the outcomes of a script's updates, each after the one before it has returned, and the states after all of them
abbrev pub script_outcomes : Module → ScriptValue → List Ending
script_outcomes m s = outcomes m (first_states m) (commands s.steps)

abbrev pub last_states : Module → ScriptValue → States
last_states m s = states_after m (first_states m) (commands s.steps)

-- the outcome lines, then the lines of the sites in the text in which each patched site holds what it wants in the end, and
-- every other byte is as the module has it
pub record IsWantsText (m : Module) (s : ScriptValue) (printed : List ℕ) : Type 0 where
  pub text : List ℕ
  pub settled : HoldsWanted m (last_states m s) text
  pub is : printed ≡ outcome_lines 1 (script_outcomes m s) ++ site_lines m.base text m.sites
