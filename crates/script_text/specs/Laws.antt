-- What an accepted script has.
use Rattle.std.specs.Prelude.{◌≡◌, ◌≤◌, ℕ, List, length, Ok}
use Rattle.std.specs.List.{All}
use Rattle.module_image.specs.Command.{IsCommandOf, IsFunction}
use Rattle.module_image.specs.Module.{Module, IsAccepted}
use Rattle.script_text.specs.declared.script.ScriptStep.{ScriptStep}
use Rattle.script_text.specs.declared.script.ScriptStep.TheVariants.{Update, Run, Drop}
use Rattle.script_text.specs.Meaning.{most_turns}
use Rattle.script_text.specs.Script.{ScriptValue, script, all_drops, all_turns, all_updates, most_cpus, most_drops, most_updates}

-- 1 to 16 processors, at most 64 updates and 64 drops, and at most 1,000,000 turns, all `run` lines together
pub record IsWithinLimits (s : ScriptValue) : Type 0 where
  pub some_cpus : 1 ≤ length s.entries
  pub few_cpus : length s.entries ≤ most_cpus
  pub few_updates : all_updates s.steps ≤ most_updates
  pub few_drops : all_drops s.steps ≤ most_drops
  pub few_turns : all_turns s.steps ≤ most_turns

-- a step is of a module: its command is one, a `run` line has a turn, and a place is below 256
abbrev pub IsStepOf : Module → ScriptStep → Type 0
IsStepOf m (Update command) = IsCommandOf m command
IsStepOf m (Run turns) = 1 ≤ turns
IsStepOf m (Drop place) = place ≤ 255

-- a script is of a module
pub record IsScriptOf (m : Module) (s : ScriptValue) : Type 0 where
  pub limits : IsWithinLimits s
  pub entries : All (IsFunction m) s.entries
  pub steps : All (IsStepOf m) s.steps

-- every script that is read is of its module
abbrev pub ScriptsAreOfTheirModules : Type 0
ScriptsAreOfTheirModules =
    (m : Module) (text : List ℕ) (s : ScriptValue) → IsAccepted m → script m text ≡ Ok s → IsScriptOf m s
