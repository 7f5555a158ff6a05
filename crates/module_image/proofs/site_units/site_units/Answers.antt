use Rattle.module_image.proofs.Marking.{units_begin, units_written}
use Rattle.module_image.proofs.site_units.site_units.Goals as goal

pub loop-number-init : goal.loop-number-init
loop-number-init c =
    units_begin c.args.code.now.base c.args.code.now.bytes.now c.args.code.now.sites.now c.in_ok-units.units.items (c.in_ok-units.ensures.items_if_clones_equal (λ y same. same))

pub loop-number-preserved : goal.loop-number-preserved
loop-number-preserved c =
    units_written c.args.code.now.base c.args.code.now.bytes.now c.args.code.now.sites.now c.loop-number.number _ c.loop-number.units.items c.deref_mut.result.now c.put_site.new.units _ c.loop-number.units.len c.requires.inside c.requires.apart c.loop-number-test.true c.loop-number.invariant c.deref_mut.ensures.value c.put_site.auto.units c.loop-number.units.ok.0 c.put_site.ensures
