-- Turns are left of a `run` line in front.
use Rattle.script_runner.proofs.WorldFacts.{turns_here}
use Rattle.script_runner.specs.WorldInside.{seen}
use Rattle.script_runner.proofs.world.World.after_turn.Goals as goal

pub use_turn-requires-clause-left : goal.use_turn-requires-clause-left
use_turn-requires-clause-left c = turns_here (seen c.self.inside) _ c.self.invariant c.steps.ensures.steps c.in-Idle.ensures.due
