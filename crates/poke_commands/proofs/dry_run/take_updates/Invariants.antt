use Rattle.std.proofs.Common.{take}
use Rattle.script_text.specs.Commands.{commands}
use Rattle.poke_commands.proofs.ScriptUpdates.{HasTaken}
use Rattle.poke_commands.proofs.dry_run.take_updates.Given as goal

abbrev pub invariant-loop-step : goal.invariant-loop-step
invariant-loop-step l =
    HasTaken l.image l.initial.settled.states (commands (take l.step-index l.steps)) l.outcomes.items l.settled
