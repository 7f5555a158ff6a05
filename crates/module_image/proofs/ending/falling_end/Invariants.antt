use Rattle.module_image.specs.Text.{layout_in}
use Rattle.module_image.proofs.Endings.{NoneFalls}
use Rattle.module_image.proofs.ending.falling_end.Given as goal

abbrev pub invariant-loop-offset : goal.invariant-loop-offset
invariant-loop-offset l = NoneFalls (layout_in l.code) l.units l.offset
