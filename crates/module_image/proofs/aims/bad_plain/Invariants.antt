use Rattle.std.proofs.Common.{◌+◌}
use Rattle.module_image.specs.Aims.{PlainReachBelow}
use Rattle.module_image.specs.Text.{layout_in}
use Rattle.module_image.proofs.aims.bad_plain.Given as goal

abbrev pub invariant-loop-offset : goal.invariant-loop-offset
invariant-loop-offset l = PlainReachBelow (layout_in l.code) (l.code.base + l.offset)
