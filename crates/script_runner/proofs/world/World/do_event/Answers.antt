-- The bytes of a fetch.
use Rattle.std.proofs.Common.{subst}
use Rattle.run_journal.specs.declared.event.Event.{Event}
use Rattle.script_runner.specs.World.{MayCome}
use Rattle.script_runner.proofs.world.World.do_event.Goals as goal

pub do_site-requires-clause-may : goal.do_site-requires-clause-may
do_site-requires-clause-may c = subst (λ (e : Event). MayCome c.args.self.now e) c.in-At.is c.requires.may
