-- It may where the machine finds the turn.
use Rattle.script_runner.proofs.Looks.{turn_iff}
use Rattle.script_runner.proofs.world.World.may_turn.Goals as goal

pub returns : goal.returns
returns c = λ s h. turn_iff c.args.self.now s c.args.cpu c.args.kind c.has_turn.result c.has_turn.ensures h
