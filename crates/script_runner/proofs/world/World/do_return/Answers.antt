-- What the event does, and that the machine is one again.
use Rattle.script_runner.specs.WorldInside.{seen}
use Rattle.script_runner.proofs.Done.{returned_done}
use Rattle.script_runner.proofs.world.World.do_return.Goals as goal

pub invariant_of-self : goal.invariant_of-self
invariant_of-self c = (returned_done (seen c.self.inside) _ _ _ _ _ c.self.view_is c.self.invariant c.requires.may c.took.ensures.step c.took.ensures.same_sites c.took.ensures.same_cpus c.steps.ensures.steps c.pass.ensures.passed c.pass.ensures.turns c.pass.ensures.within c.put_returned.ensures).world

pub returns : goal.returns
returns c = (returned_done (seen c.self.inside) _ _ _ _ _ c.self.view_is c.self.invariant c.requires.may c.took.ensures.step c.took.ensures.same_sites c.took.ensures.same_cpus c.steps.ensures.steps c.pass.ensures.passed c.pass.ensures.turns c.pass.ensures.within c.put_returned.ensures).does
