use Rattle.std.proofs.Common.{refl}
use Rattle.poke_faults.specs.declared.fault.Fault.TheVariants.{Memory}
use Rattle.poke_commands.specs.Scripted.{RunsAs}
use Rattle.poke_tool.proofs.RunWays.{run_said}
use Rattle.poke_commands.proofs.Ways.{fault_as}
use Rattle.poke_tool.proofs.run.run_script.Goals as goal

pub returns-in_err-world : goal.returns-in_err-world
returns-in_err-world g c =
    fault_as (RunsAs c.args.image c.args.script c.args.journal_name.now c.args.seed _ _ _ _) Memory c.from_residual.result c.from_residual.ensures.1 (refl, refl)

pub returns : goal.returns
returns g c =
    run_said c.in_ok-world.world.image c.args.image c.in_ok-world.world.script c.args.script c.args.journal_name.now c.args.seed _ _ _ _ c.run_world.result c.in_ok-world.ensures.image c.in_ok-world.ensures.script c.run_world.ensures
