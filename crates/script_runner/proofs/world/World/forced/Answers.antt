-- One processor more.
use Rattle.std.proofs.Common.{◌++◌, arith, length}
use Rattle.script_runner.specs.Choosing.{handler_found, patch_found, taking_found}
use Rattle.script_runner.proofs.Ranges.{below, one_pushed}
use Rattle.script_runner.proofs.world.World.forced.Goals as goal

pub loop-cpu-preserved : goal.loop-cpu-preserved
loop-cpu-preserved c = (
  one_pushed c.args.self.now (taking_found c.args.self.now) c.loop-cpu.cpu (patch_found c.args.self.now) _ _ _ c.loop-cpu.invariant.0 c.push_some-in-loop-cpu.ensures.added c.taking_pick.ensures,
  (let one = c.push_some-in-loop-cpu.ensures.few in let most = c.loop-cpu.invariant.1 in omega (arith, one, most)),
)

pub loop-cpu-2-preserved : goal.loop-cpu-2-preserved
loop-cpu-2-preserved c = (
  one_pushed c.args.self.now (handler_found c.args.self.now) c.loop-cpu-2.cpu (patch_found c.args.self.now ++ below c.args.self.now (taking_found c.args.self.now) (length c.args.self.now.cpus)) _ _ _ c.loop-cpu-2.invariant.0 c.push_some-in-loop-cpu-2.ensures.added c.handler_pick.ensures,
  (let one = c.push_some-in-loop-cpu-2.ensures.few in let most = c.loop-cpu-2.invariant.1 in omega (arith, one, most)),
)
