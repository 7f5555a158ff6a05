use Rattle.module_image.specs.Text.{layout_in}
use Rattle.module_image.proofs.Leading.{unless_astray, plain_more}
use Rattle.module_image.proofs.aims.bad_plain.Goals as goal

pub loop-offset-preserved : goal.loop-offset-preserved
loop-offset-preserved c = plain_more (layout_in c.args.code.now) c.args.units.now c.loop-offset.offset _ c.requires.swept c.loop-offset-test.true c.loop-offset.invariant c.plain_target.result c.plain_target.ensures (unless_astray c.astray.result _ _ c.astray.ensures c.in_default.not-Some)
