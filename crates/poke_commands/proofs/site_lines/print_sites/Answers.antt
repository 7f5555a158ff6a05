use Rattle.std.proofs.Common.{◌∙◌, ap, false, Err, List, ℕ, slice_index_or, subst}
use Rattle.std.proofs.lemmas.Option.{slice_get-get_or}
use Rattle.poke_base.specs.declared.host.WriteFail.{WriteFail}
use Rattle.poke_base.specs.Host.{Prints}
use Rattle.module_parts.specs.declared.site.Site.{Site}
use Rattle.module_parts.specs.declared.site.SiteKind.TheVariants.{Jump}
use Rattle.module_image.specs.SiteLine.{line_of, site_line, site_lines}
use Rattle.poke_base.proofs.ItemLines.{as_failed, item_failed, item_printed}
use Rattle.poke_commands.proofs.site_lines.print_sites.Goals as goal

-- what stands where a list has no site
blank : Site
blank = record { at = 0; len = 0; kind = Jump 0 0 false; foreign = false }

pub returns-in_err-print : goal.returns-in_err-print
unfolding blank
returns-in_err-print g c =
    let at_sites : Site = slice_index_or c.sites-site-items.result.now c.loop-site.site-index blank in
    as_failed _ _ _ c.in_err-print.field-0.0 c.from_residual.result c.from_residual.ensures.0
    (
    subst (λ (text : List ℕ). Prints {T = Unit {0}} {E = WriteFail} (g.H.Host.outside c.args.host.now) (g.H.Host.outside c.print.new.self) text (Err c.in_err-print.field-0.0))
    (
    ap (λ (sites : List Site). site_lines c.base-base.result c.args.text.now sites) c.sites-site-items.ensures.sites
    ∙ ap (λ (base : ℕ). site_lines base c.args.text.now c.args.image.now.sites) c.base-base.ensures.base
    )
    (item_failed (line_of c.base-base.result c.args.text.now) c.sites-site-items.result.now c.loop-site.site-index at_sites c.deref.result.now c.in_err-print.field-0.0 _ _ _ (slice_get-get_or c.sites-site-items.result.now c.loop-site.site-index blank c.loop-site-test.true) c.loop-site.invariant (c.deref.ensures.0 ∙ c.site_line.ensures ∙ ap (λ (code : List ℕ). site_line at_sites code) c.code_of.ensures.code) c.in_err-print.ensures)
    )

pub loop-site-preserved : goal.loop-site-preserved
unfolding blank
loop-site-preserved g c =
    let at_sites : Site = slice_index_or c.sites-site-items.result.now c.loop-site.site-index blank in
    item_printed (line_of c.base-base.result c.args.text.now) c.sites-site-items.result.now c.loop-site.site-index at_sites c.deref.result.now _ _ _ (slice_get-get_or c.sites-site-items.result.now c.loop-site.site-index blank c.loop-site-test.true) c.loop-site.invariant (c.deref.ensures.0 ∙ c.site_line.ensures ∙ ap (λ (code : List ℕ). site_line at_sites code) c.code_of.ensures.code) c.in_ok-print.ensures
