use Rattle.std.proofs.Common.{Err, Ok}
use Rattle.poke_faults.specs.RunFault.{run_fault}
use Rattle.poke_commands.specs.Scripted.{ReplaysAs}
use Rattle.poke_tool.proofs.ThreeFiles.{replay_answers}
use Rattle.poke_commands.proofs.Ways.{fault_as}
use Rattle.poke_tool.proofs.replay.replay_world.Goals as goal

pub returns-in_err-replay : goal.returns-in_err-replay
returns-in_err-replay g c =
    fault_as (ReplaysAs c.args.world.now.image c.args.world.now.script c.args.journal.now _ _ _ _) (run_fault c.in_err-replay.field-0.0) c.from_residual.result c.from_residual.ensures.1
    (replay_answers c.args.world.now.image c.args.world.now.script c.args.journal.now _ _ _ _ (Err c.in_err-replay.field-0.0) c.in_err-replay.ensures)

pub returns : goal.returns
returns g c =
    replay_answers c.args.world.now.image c.args.world.now.script c.args.journal.now _ _ _ _ (Ok tt) c.in_ok-replay.ensures
