-- What the event does, and that the machine is one again.
use Rattle.std.proofs.Common.{sym}
use Rattle.script_runner.specs.WorldInside.{seen}
use Rattle.script_runner.proofs.Done.{wrote_done}
use Rattle.script_runner.proofs.WorldFacts.{inside_world, room_write}
use Rattle.script_runner.proofs.world.World.do_write.Goals as goal

pub write-requires-clause-inside : goal.write-requires-clause-inside
write-requires-clause-inside c = inside_world (seen c.self.inside) _ _ c.self.invariant (sym c.in-Write.ensures.due)

pub write-requires-clause-room : goal.write-requires-clause-room
write-requires-clause-room c = room_write (seen c.self.inside) _ _ c.self.invariant (sym c.in-Write.ensures.due)

pub invariant_of-self : goal.invariant_of-self
invariant_of-self c = (wrote_done (seen c.self.inside) _ _ _ _ _ c.self.view_is c.self.invariant c.requires c.in-Write.ensures.due c.write.ensures.stands c.took.ensures.step c.took.ensures.same_sites c.took.ensures.same_cpus).world

pub returns : goal.returns
returns c = (wrote_done (seen c.self.inside) _ _ _ _ _ c.self.view_is c.self.invariant c.requires c.in-Write.ensures.due c.write.ensures.stands c.took.ensures.step c.took.ensures.same_sites c.took.ensures.same_cpus).does
