use Rattle.module_parts.specs.declared.site.Site.{Site}
use Rattle.module_image.specs.Leads.{jump_target}
use Rattle.module_image.specs.Text.{layout_in}
use Rattle.module_image.proofs.Leading.{unless_astray, lead_more, jump_first, jumps_reach}
use Rattle.module_image.proofs.aims.bad_site.Goals as goal

pub returns-in-Some : goal.returns-in-Some
returns-in-Some c = jump_first (layout_in c.args.code.now) c.args.code.now.sites.now c.loop-site.site-index _ c.jump_target.result c.in-Some.aim c.loop-site-test.true c.loop-site.invariant c.jump_target.ensures c.in-Some.ensures

pub loop-site-preserved : goal.loop-site-preserved
loop-site-preserved c = lead_more (layout_in c.args.code.now) (λ (s : Site). jump_target s.kind) c.args.code.now.sites.now c.loop-site.site-index _ c.jump_target.result c.loop-site.invariant c.loop-site-test.true c.jump_target.ensures (unless_astray c.astray.result _ _ c.astray.ensures c.in_default.not-Some)

pub returns : goal.returns
returns c = jumps_reach (layout_in c.args.code.now) c.args.code.now.sites.now c.loop-site.site-index c.loop-site-test.false c.loop-site.invariant
