-- What the event does, and that the machine is one again.
use Rattle.script_runner.specs.WorldInside.{seen}
use Rattle.script_runner.proofs.Done.{took_done}
use Rattle.script_runner.proofs.world.World.do_take.Goals as goal

pub invariant_of-self : goal.invariant_of-self
invariant_of-self c = (took_done (seen c.self.inside) _ _ _ _ c.self.view_is c.self.invariant c.requires c.serialise.ensures.stands c.acked.ensures.step c.acked.ensures.same_sites c.acked.ensures.same_cpus).world

pub returns : goal.returns
returns c = (took_done (seen c.self.inside) _ _ _ _ c.self.view_is c.self.invariant c.requires c.serialise.ensures.stands c.acked.ensures.step c.acked.ensures.same_sites c.acked.ensures.same_cpus).does
