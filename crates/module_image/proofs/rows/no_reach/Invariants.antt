use Rattle.module_image.specs.First.{NoneBelow}
use Rattle.module_image.specs.Refusals.{IsOutOfReach}
use Rattle.module_image.proofs.rows.no_reach.Given as goal

abbrev pub invariant-loop-site : goal.invariant-loop-site
invariant-loop-site l = NoneBelow IsOutOfReach l.found l.site-index
