-- What the event does, and that the machine is one again.
use Rattle.script_runner.specs.WorldInside.{seen}
use Rattle.script_runner.proofs.Done.{requested_done}
use Rattle.script_runner.proofs.world.World.do_request.Goals as goal

pub invariant_of-self : goal.invariant_of-self
invariant_of-self c = (requested_done (seen c.self.inside) _ _ c.self.view_is c.self.invariant c.requires c.took.ensures.step c.took.ensures.same_sites c.took.ensures.same_cpus).world

pub returns : goal.returns
returns c = (requested_done (seen c.self.inside) _ _ c.self.view_is c.self.invariant c.requires c.took.ensures.step c.took.ensures.same_sites c.took.ensures.same_cpus).does
