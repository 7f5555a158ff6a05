use Rattle.std.proofs.Common.{List, Some, false, slice_index_or, subst, ◌≡◌, ◌∙◌, ℕ}
use Rattle.std.specs.List.{slice_get}
use Rattle.std.proofs.lemmas.Option.{slice_get-get_or}
use Rattle.module_parts.specs.declared.site.Site.{Site}
use Rattle.module_parts.specs.declared.site.SiteKind.TheVariants.{Jump}
use Rattle.poke_base.proofs.ItemLines.{as_failed}
use Rattle.live_trace.proofs.SiteTexts.{line_here, site_failed, site_printed}
use Rattle.live_trace.proofs.sites.print_live_sites.Goals as goal

-- what stands where a list has no site
blank : Site
blank = record { at = 0; len = 0; kind = Jump 0 0 false; foreign = false }

pub returns-in_err-print : goal.returns-in_err-print
unfolding blank
returns-in_err-print g c =
    let m = c.args.image.now in
    let i = c.loop-site.site-index in
    let rest = c.loop-site.rest.now in
    let s : Site = slice_index_or c.sites-site-items.result.now i blank in
    as_failed _ _ _ c.in_err-print.field-0.0 c.from_residual.result c.from_residual.ensures.0
    (site_failed m.base m.text m.sites c.args.bytes.now i s rest c.deref.result.now c.in_err-print.field-0.0 _ _ _ c.loop-site.invariant
    (subst (λ (sites : List Site). slice_get sites i ≡ Some s) c.sites-site-items.ensures.sites (slice_get-get_or c.sites-site-items.result.now i blank c.loop-site-test.true))
    (line_here m.base m.text s rest c.cut.result.0.now c.deref.result.now (c.deref.ensures.0 ∙ c.site_line.ensures) c.cut.ensures.code)
    c.in_err-print.ensures)

pub loop-site-preserved : goal.loop-site-preserved
unfolding blank
loop-site-preserved g c =
    let m = c.args.image.now in
    let i = c.loop-site.site-index in
    let rest = c.loop-site.rest.now in
    let s : Site = slice_index_or c.sites-site-items.result.now i blank in
    site_printed m.base m.text m.sites c.args.bytes.now i s rest c.cut.result.1.now c.deref.result.now _ _ _ c.loop-site.invariant
    (subst (λ (sites : List Site). slice_get sites i ≡ Some s) c.sites-site-items.ensures.sites (slice_get-get_or c.sites-site-items.result.now i blank c.loop-site-test.true))
    (line_here m.base m.text s rest c.cut.result.0.now c.deref.result.now (c.deref.ensures.0 ∙ c.site_line.ensures) c.cut.ensures.code)
    c.cut.ensures.later c.in_ok-print.ensures
