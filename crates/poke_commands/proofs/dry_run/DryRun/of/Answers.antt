use Rattle.poke_commands.proofs.ScriptUpdates.{few_outcomes}
use Rattle.poke_commands.proofs.dry_run.DryRun.of.Goals as goal

pub returns-clause-few : goal.returns-clause-few
returns-clause-few c =
    few_outcomes c.args.image.now c.in_ok-settled.settled.states c.steps.result.now c.in_ok-outcomes.outcomes.items 64 c.in_ok-outcomes.ensures.endings c.steps.ensures.few_updates
