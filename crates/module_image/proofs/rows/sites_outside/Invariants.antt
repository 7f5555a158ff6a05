use Rattle.module_image.specs.First.{NoneBelow}
use Rattle.module_image.specs.Refusals.{IsOutside}
use Rattle.module_image.proofs.rows.sites_outside.Given as goal

abbrev pub invariant-loop-entry : goal.invariant-loop-entry
invariant-loop-entry l = NoneBelow (IsOutside l.file) l.list l.entry-index
