use Rattle.std.proofs.Common.{length, ◌-◌}
use Rattle.module_image.specs.Text.{layout_in}
use Rattle.module_image.proofs.Sweeps.{Sweeping}
use Rattle.module_image.proofs.sweep.sweep.Given as goal

abbrev pub invariant-loop-offset : goal.invariant-loop-offset
invariant-loop-offset l = Sweeping (layout_in l.code) l.units.items l.offset

abbrev pub decreases-loop-offset : goal.decreases-loop-offset
decreases-loop-offset l = length l.code.bytes.now - l.offset
