-- One processor more.
use Rattle.std.proofs.Common.{arith}
use Rattle.script_runner.specs.Choosing.{patch_found, taking_found, turn_found}
use Rattle.script_runner.proofs.Ranges.{two_pushed}
use Rattle.script_runner.proofs.world.World.picks.Goals as goal

pub loop-cpu-preserved : goal.loop-cpu-preserved
loop-cpu-preserved c = (
  two_pushed c.args.self.now (taking_found c.args.self.now) (turn_found c.args.self.now) c.loop-cpu.cpu (patch_found c.args.self.now) _ _ _ _ _
      c.loop-cpu.invariant.0 c.push_some-in-loop-cpu.ensures.added c.taking_pick.ensures c.push_some-in-loop-cpu-2.ensures.added c.turn_pick.ensures,
  (let one = c.push_some-in-loop-cpu.ensures.few in let two = c.push_some-in-loop-cpu-2.ensures.few in let most = c.loop-cpu.invariant.1 in omega (arith, one, two, most)),
)
