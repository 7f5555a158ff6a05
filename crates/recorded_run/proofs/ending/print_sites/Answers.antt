use Rattle.std.proofs.Common.{◌≡◌, ◌∙◌, ◌<◌, length, ap, arith}
use Rattle.module_image.specs.Module.{Module}
use Rattle.switching.specs.Laws.{held_text}
use Rattle.poke_base.proofs.ItemLines.{as_failed}
use Rattle.recorded_run.proofs.SiteLines.{site_failed, site_printed}
use Rattle.recorded_run.proofs.ending.print_sites.Goals as goal

pub returns-in_err-print : goal.returns-in_err-print
returns-in_err-print g c s stands =
    let m = c.args.world.now.image in
    let same : length c.sites.result.now ≡ length m.sites = ap length (c.sites.ensures.sites ∙ ap (λ (n : Module). n.sites) c.image.ensures) in
    let within = c.loop-site-test.true in
    let below : c.loop-site.site < length m.sites = omega (arith, same, within) in
    as_failed _ _ _ c.in_err-print.field-0.0 c.from_residual.result c.from_residual.ensures.0
    (site_failed m (held_text m s) c.loop-site.site c.deref.result.now c.in_err-print.field-0.0 _ _ _ below (c.loop-site.invariant s stands) (c.deref.ensures.0 ∙ c.site_line.ensures s stands) c.in_err-print.ensures)

pub loop-site-preserved : goal.loop-site-preserved
loop-site-preserved g c s stands =
    let m = c.args.world.now.image in
    let same : length c.sites.result.now ≡ length m.sites = ap length (c.sites.ensures.sites ∙ ap (λ (n : Module). n.sites) c.image.ensures) in
    let within = c.loop-site-test.true in
    let below : c.loop-site.site < length m.sites = omega (arith, same, within) in
    site_printed m (held_text m s) c.loop-site.site c.deref.result.now _ _ _ below (c.loop-site.invariant s stands) (c.deref.ensures.0 ∙ c.site_line.ensures s stands) c.in_ok-print.ensures
