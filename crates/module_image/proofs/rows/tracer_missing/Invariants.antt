use Rattle.module_image.specs.First.{NoneBelow}
use Rattle.module_image.specs.Refusals.{IsTrace}
use Rattle.module_image.proofs.rows.tracer_missing.Given as goal

abbrev pub invariant-loop-site : goal.invariant-loop-site
invariant-loop-site l = NoneBelow IsTrace l.found l.site-index
