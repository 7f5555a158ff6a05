use Rattle.module_image.specs.Text.{layout_in}
use Rattle.module_image.proofs.Endings.{none_more, falls_there, none_falls}
use Rattle.module_image.proofs.ending.falling_end.Goals as goal

pub loop-offset-preserved : goal.loop-offset-preserved
loop-offset-preserved c = none_more (layout_in c.args.code.now) c.args.units.now c.loop-offset.offset _ c.falls_off.result c.loop-offset.invariant c.loop-offset-test.true c.falls_off.ensures c.if-falls_off.false

pub returns-then-falls_off : goal.returns-then-falls_off
returns-then-falls_off c = falls_there (layout_in c.args.code.now) c.args.units.now c.loop-offset.offset _ c.falls_off.result c.requires.swept c.loop-offset-test.true c.falls_off.ensures c.if-falls_off.true

pub returns : goal.returns
returns c = none_falls (layout_in c.args.code.now) c.args.units.now c.loop-offset.offset c.requires.swept c.loop-offset-test.false c.loop-offset.invariant
