use Rattle.module_image.specs.Text.{layout_in}
use Rattle.module_image.proofs.Sweeps.{sweep_begins, sweep_told, sweep_ends}
use Rattle.module_image.proofs.sweep.sweep.Goals as goal

pub loop-offset-init : goal.loop-offset-init
loop-offset-init c = sweep_begins (layout_in c.args.code.now) c.in_ok-units.units.items c.in_ok-units.ensures.units

pub loop-offset-preserved : goal.loop-offset-preserved
loop-offset-preserved c =
    sweep_told (layout_in c.args.code.now) c.loop-offset.units.items c.loop-offset.offset c.unit_len-len.result c.from-offset.result c.unit_at-unit.result c.requires.inside c.requires.apart c.loop-offset.invariant c.loop-offset-test.true c.unit_at-unit.ensures c.unit_len-len.ensures c.if-len-eq0.false c.from-offset.ensures

pub returns-clause-swept : goal.returns-clause-swept
returns-clause-swept c = sweep_ends (layout_in c.args.code.now) c.loop-offset.units.items c.loop-offset.offset c.requires.some c.loop-offset.invariant c.loop-offset-test.false
