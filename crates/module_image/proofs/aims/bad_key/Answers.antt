use Rattle.module_parts.specs.declared.key.Key.{Key}
use Rattle.module_image.specs.Leads.{key_target}
use Rattle.module_image.specs.Text.{layout_in}
use Rattle.module_image.proofs.Leading.{unless_astray, lead_more, key_first, keys_reach}
use Rattle.module_image.proofs.aims.bad_key.Goals as goal

pub returns-in-Some : goal.returns-in-Some
returns-in-Some c = key_first (layout_in c.args.code.now) c.args.keys.now c.loop-key.key-index _ c.key_target.result c.in-Some.aim c.loop-key-test.true c.loop-key.invariant c.key_target.ensures c.in-Some.ensures

pub loop-key-preserved : goal.loop-key-preserved
loop-key-preserved c = lead_more (layout_in c.args.code.now) (λ (k : Key). key_target k.class k.start) c.args.keys.now c.loop-key.key-index _ c.key_target.result c.loop-key.invariant c.loop-key-test.true c.key_target.ensures (unless_astray c.astray.result _ _ c.astray.ensures c.in_default.not-Some)

pub returns : goal.returns
returns c = keys_reach (layout_in c.args.code.now) c.args.keys.now c.loop-key.key-index c.loop-key-test.false c.loop-key.invariant
