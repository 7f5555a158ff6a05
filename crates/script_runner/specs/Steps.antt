-- The steps of a script that are still to come, and what a turn uses of them.
use Rattle.std.specs.Prelude.{◌==◌, ℕ, ◌+◌, if◌then◌else◌, List, [], ◌∷◌, drop, Option, Some, None}
use Rattle.script_text.specs.declared.script.ScriptStep.{ScriptStep}
use Rattle.script_text.specs.declared.script.ScriptStep.TheVariants.{Update, Run, Drop}
use Rattle.script_runner.specs.declared.progress.Progress.{Progress}

-- the step that is next
abbrev pub front : List ScriptStep → Option ScriptStep
front [] = None
front (step ∷ rest) = Some step

-- the steps that are still to come where some are passed
abbrev pub to_come : Progress → List ScriptStep → List ScriptStep
to_come p steps = drop p.place steps

-- a turn is used of the `run` line in front, which is passed after its last one: the steps that are still to come, and how many
-- turns of the first are used
abbrev pub after_turn : ℕ → List ScriptStep → List ScriptStep × ℕ
after_turn used [] = ([], used)
after_turn used (Update command ∷ rest) = (Update command ∷ rest, used)
after_turn used (Run turns ∷ rest) = if used + 1 == turns then (rest, 0) else (Run turns ∷ rest, used + 1)
after_turn used (Drop place ∷ rest) = (Drop place ∷ rest, used)
