use Rattle.module_image.specs.First.{NoneBelow}
use Rattle.module_image.specs.Refusals.{HasBadState}
use Rattle.module_image.proofs.rows.keys_state.Given as goal

abbrev pub invariant-loop-key : goal.invariant-loop-key
invariant-loop-key l = NoneBelow HasBadState l.found l.key-index
