use Rattle.module_image.specs.First.{NoneBelow}
use Rattle.module_image.specs.Refusals.{HasBadLength}
use Rattle.module_image.proofs.rows.sites_length.Given as goal

abbrev pub invariant-loop-entry : goal.invariant-loop-entry
invariant-loop-entry l = NoneBelow (HasBadLength l.file) l.list l.entry-index
