-- What the event does, and that the machine is one again.
use Rattle.cpu_core.specs.Turn.{handled_turn}
use Rattle.script_runner.specs.WorldInside.{seen}
use Rattle.script_runner.proofs.Done.{handled_acts, handled_done, handled_line}
use Rattle.script_runner.proofs.world.World.do_handler.Goals as goal

pub invariant_of-self : goal.invariant_of-self
invariant_of-self c = (handled_done (seen c.self.inside) _ _ _ _ _ _ _ _ _ _ _ c.self.view_is c.self.invariant c.requires.may c.from.ensures c.index_mut-there.ensures.value c.handled-handled.ensures.cpu c.one_more_idle-self-inside.ensures c.after_turn-progress.ensures.used c.after_turn-progress.ensures.within c.handled-handled.ensures.text (handled_line _ _ _ _ _ _ _ c.proc.ensures c.handled-handled.ensures.cpu c.handled-handled.ensures.answer c.put_handled.ensures) (handled_acts c.self.inside.image c.args.cpu (handled_turn c.self.inside.updater.batch.update c.index_mut-there.result.now).proc.life c.acted_handled.result c.handled-handled.result _ c.handled-handled.ensures.answer c.acted_handled.ensures)).world

pub returns : goal.returns
returns c = (handled_done (seen c.self.inside) _ _ _ _ _ _ _ _ _ _ _ c.self.view_is c.self.invariant c.requires.may c.from.ensures c.index_mut-there.ensures.value c.handled-handled.ensures.cpu c.one_more_idle-self-inside.ensures c.after_turn-progress.ensures.used c.after_turn-progress.ensures.within c.handled-handled.ensures.text (handled_line _ _ _ _ _ _ _ c.proc.ensures c.handled-handled.ensures.cpu c.handled-handled.ensures.answer c.put_handled.ensures) (handled_acts c.self.inside.image c.args.cpu (handled_turn c.self.inside.updater.batch.update c.index_mut-there.result.now).proc.life c.acted_handled.result c.handled-handled.result _ c.handled-handled.ensures.answer c.acted_handled.ensures)).does
