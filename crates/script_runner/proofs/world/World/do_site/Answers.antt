-- What the event does, and that the machine is one again.
use Rattle.cpu_core.specs.Turn.{at_turn}
use Rattle.script_runner.specs.WorldInside.{seen}
use Rattle.script_runner.proofs.Done.{site_done, stepped_acts, stepped_line}
use Rattle.script_runner.proofs.WorldFacts.{cpu_few, fetched_here}
use Rattle.script_runner.proofs.world.World.do_site.Goals as goal

pub at-stepped-requires-clause-fetch : goal.at-stepped-requires-clause-fetch
at-stepped-requires-clause-fetch c = fetched_here (seen c.self.inside) _ _ _ _ _ _ c.self.view_is c.self.invariant c.requires.may c.from.ensures c.index_mut-there.ensures.value

pub put_stepped-requires-clause-known : goal.put_stepped-requires-clause-known
put_stepped-requires-clause-known c = cpu_few (seen c.self.inside) _ _ _ c.self.view_is c.self.invariant c.requires.may

pub invariant_of-self : goal.invariant_of-self
invariant_of-self c = (site_done (seen c.self.inside) _ _ _ _ _ _ _ _ _ _ _ c.self.view_is c.self.invariant c.requires.may c.from.ensures c.index_mut-there.ensures.value c.at-stepped.ensures.cpu c.one_more_idle-self-inside.ensures c.after_turn-progress.ensures.used c.after_turn-progress.ensures.within (stepped_line _ _ _ _ _ _ _ c.proc.ensures c.at-stepped.ensures.cpu c.at-stepped.ensures.answer c.put_stepped.ensures) (stepped_acts c.self.inside.image c.args.cpu (at_turn c.args.bytes.now.items c.index_mut-there.result.now).proc.life c.acted_stepped.result c.at-stepped.result _ c.at-stepped.ensures.answer c.acted_stepped.ensures)).world

pub returns : goal.returns
returns c = (site_done (seen c.self.inside) _ _ _ _ _ _ _ _ _ _ _ c.self.view_is c.self.invariant c.requires.may c.from.ensures c.index_mut-there.ensures.value c.at-stepped.ensures.cpu c.one_more_idle-self-inside.ensures c.after_turn-progress.ensures.used c.after_turn-progress.ensures.within (stepped_line _ _ _ _ _ _ _ c.proc.ensures c.at-stepped.ensures.cpu c.at-stepped.ensures.answer c.put_stepped.ensures) (stepped_acts c.self.inside.image c.args.cpu (at_turn c.args.bytes.now.items c.index_mut-there.result.now).proc.life c.acted_stepped.result c.at-stepped.result _ c.at-stepped.ensures.answer c.acted_stepped.ensures)).does
