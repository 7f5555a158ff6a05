-- The module's updates stay done at once.
use Rattle.key_state.specs.Settled.{IsSettledOf}
use Rattle.key_tests.proofs.tests.takes.Given as goal

abbrev pub invariant-loop-asked : goal.invariant-loop-asked
invariant-loop-asked g l = IsSettledOf l.image l.settled
