-- It may where the machine finds that it takes the request.
use Rattle.script_runner.proofs.Looks.{take_iff}
use Rattle.script_runner.proofs.world.World.may_take.Goals as goal

pub returns : goal.returns
returns c = λ s h. take_iff c.args.self.now s c.args.cpu c.takes.result c.takes.ensures h
