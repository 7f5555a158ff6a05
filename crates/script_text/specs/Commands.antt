-- The commands of a script.
use Rattle.std.specs.Prelude.{List, [], ◌∷◌}
use Rattle.std.specs.List.{flat_map}
use Rattle.module_parts.specs.declared.command.Command.{Command}
use Rattle.script_text.specs.declared.script.ScriptStep.{ScriptStep}
use Rattle.script_text.specs.declared.script.ScriptStep.TheVariants.{Update, Run, Drop}

-- the command of a step, where it is an update
abbrev pub command_of : ScriptStep → List Command
command_of (Update command) = command ∷ []
command_of (Run turns) = []
command_of (Drop place) = []

-- the commands of the updates, in order
abbrev pub commands : List ScriptStep → List Command
commands steps = flat_map command_of steps
