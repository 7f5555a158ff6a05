use Rattle.std.proofs.Common.{◌≡◌, ◌-◌, ◌∙◌, List, None, ap, if◌then◌else◌, nat_lt, slice_get, subst}
use Rattle.std.specs.Prelude.{IfSome}
use Rattle.module_parts.specs.declared.unit.Unit.{Unit}
use Rattle.module_image.specs.Inside.{module_of}
use Rattle.module_image.specs.Module.{Module, layout_of}
use Rattle.module_image.specs.Layout.{site_at}
use Rattle.module_image.specs.Lent.{IsPatchedSite}
use Rattle.module_image.specs.Sweeping.{site_in}
use Rattle.module_image.proofs.Lent.{patched_site}
use Rattle.module_image.proofs.UnitLaws.{site_noted}
use Rattle.module_image.proofs.image.Image.site_at.Goals as goal

pub returns : goal.returns
returns c =
    let m = module_of c.self.inside in
    let at = c.args.at in
    let sound = c.self.invariant in
    let told : c.site_at.result ≡ site_at m.sites at =
    c.site_at.ensures ∙ ap (λ (us : List Unit). if nat_lt at m.base then None else site_in (slice_get us (at - m.base))) c.deref.ensures.value
    ∙ site_noted (layout_of m) m.units at sound.inside sound.apart sound.swept in
    record {
      found = told ∙ ap (λ (n : Module). site_at n.sites at) c.self.view_is;
      site = subst (λ (n : Module). IfSome c.site_at.result (IsPatchedSite n.sites at)) c.self.view_is (patched_site m.sites at c.site_at.result told);
    }
