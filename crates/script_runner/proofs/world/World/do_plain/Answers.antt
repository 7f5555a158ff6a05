-- What the event does, and that the machine is one again.
use Rattle.script_runner.specs.WorldInside.{seen}
use Rattle.script_runner.proofs.Done.{plain_done, stepped_line}
use Rattle.script_runner.proofs.world.World.do_plain.Goals as goal

pub invariant_of-self : goal.invariant_of-self
invariant_of-self c = (plain_done (seen c.self.inside) _ _ _ _ _ _ _ _ _ _ c.self.view_is c.self.invariant c.requires.may c.from.ensures c.index_mut-there.ensures.value c.plain-stepped.ensures.cpu c.one_more_idle-self-inside.ensures c.after_turn-progress.ensures.used c.after_turn-progress.ensures.within c.plain-stepped.ensures.text (stepped_line _ _ _ _ _ _ _ c.proc.ensures c.plain-stepped.ensures.cpu c.plain-stepped.ensures.answer c.put_stepped.ensures)).world

pub returns : goal.returns
returns c = (plain_done (seen c.self.inside) _ _ _ _ _ _ _ _ _ _ c.self.view_is c.self.invariant c.requires.may c.from.ensures c.index_mut-there.ensures.value c.plain-stepped.ensures.cpu c.one_more_idle-self-inside.ensures c.after_turn-progress.ensures.used c.after_turn-progress.ensures.within c.plain-stepped.ensures.text (stepped_line _ _ _ _ _ _ _ c.proc.ensures c.plain-stepped.ensures.cpu c.plain-stepped.ensures.answer c.put_stepped.ensures)).does
