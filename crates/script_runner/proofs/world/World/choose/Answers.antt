-- What is picked is what the rule takes.
use Rattle.std.proofs.Common.{subst}
use Rattle.script_runner.specs.World.{IsWorld}
use Rattle.script_runner.proofs.Chosen.{can_fetch, is_over, takes_next}
use Rattle.script_runner.proofs.world.World.choose.Goals as goal

pub event_of-requires : goal.event_of-requires
event_of-requires c =
    can_fetch c.args.self.now c.args.words.now c.pick.new.words c.in-Some.pick (subst IsWorld c.self.view_is c.self.invariant) c.in-Some.ensures.picked

pub returns-in-Some : goal.returns-in-Some
returns-in-Some c = λ ch h.
    takes_next c.args.self.now ch c.in-Some.pick c.event_of.result c.args.words.now c.pick.new.words c.event_of.new.words h c.in-Some.ensures.picked c.event_of.ensures

pub returns-in-None : goal.returns-in-None
returns-in-None c = λ ch h.
    is_over c.args.self.now ch c.args.words.now c.pick.new.words (subst IsWorld c.self.view_is c.self.invariant) h c.in-None.ensures.picked c.in-None.ensures.kept
