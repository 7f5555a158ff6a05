-- What the event does, and that the machine is one again.
use Rattle.script_runner.specs.WorldInside.{seen}
use Rattle.script_runner.proofs.Done.{ticked_done}
use Rattle.script_runner.proofs.world.World.do_tick.Goals as goal

pub invariant_of-self : goal.invariant_of-self
invariant_of-self c = (ticked_done (seen c.self.inside) _ _ _ _ c.self.view_is c.self.invariant c.requires c.one_more_idle-self-inside.ensures c.after_turn-self-inside.ensures.used c.after_turn-self-inside.ensures.within).world

pub returns : goal.returns
returns c = (ticked_done (seen c.self.inside) _ _ _ _ c.self.view_is c.self.invariant c.requires c.one_more_idle-self-inside.ensures c.after_turn-self-inside.ensures.used c.after_turn-self-inside.ensures.within).does
