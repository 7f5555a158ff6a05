-- What an accepted module says of the patched site at an address.
use Rattle.std.proofs.Common.{◌≡◌, ◌∙◌, ◌+◌, ◌<◌, ◌≤◌, ◌^◌, ◌⊎◌, inl, inr, ℕ, false, List, length, Option, Some, None, slice_get, sym, ap, subst, arith}
use Rattle.std.specs.Option.{unwrap_or}
use Rattle.std.proofs.lemmas.Bool.{cases_order}
use Rattle.std.proofs.lemmas.Option.{none-some}
use Rattle.insn_forms.specs.declared.forms.Form.{Form}
use Rattle.insn_forms.specs.declared.forms.Form.TheVariants.{Nop2}
use Rattle.insn_forms.specs.Spelling.{size, spell}
use Rattle.insn_forms.proofs.Spellings.{length-spell}
use Rattle.x64_subset.specs.declared.proc.Life.TheVariants.{Running}
use Rattle.x64_subset.specs.declared.proc.Proc.{Proc}
use Rattle.x64_subset.specs.Whole.{whole}
use Rattle.module_parts.specs.declared.site.Site.{Site}
use Rattle.module_image.specs.Flows.{Flows, HasInsn, HasSite}
use Rattle.module_image.specs.Layout.{site_at}
use Rattle.module_image.specs.Lent.{IsLaidOut}
use Rattle.module_image.specs.Module.{IsAccepted, Module, States, layout_of, wants}
use Rattle.module_image.proofs.Lent.{sites_laid_out, starts_units}
use Rattle.module_laws.proofs.Reaching.{forms_reach}
use Rattle.module_laws.proofs.SiteFlows.{patched_flows}
use Rattle.module_image.proofs.UnitLaws.{site_is, site_numbered}
use Rattle.key_state.specs.Changes.{AreStatesOf}
use Rattle.key_state.proofs.Differing.{form_of, wants_form}
use Rattle.switching.specs.State.{text_end}
use Rattle.switching.specs.Switching.{wanted_at, wanted_by}

-- the patched site that begins at an address
pub record IsSiteOf (m : Module) (at : ℕ) (number : ℕ) : Type 0 where
  pub site : Site
  pub here : slice_get m.sites number ≡ Some site
  pub ours : site.foreign ≡ false
  pub begins : site.at ≡ at
  pub from : m.base ≤ at
  pub to : at + site.len ≤ text_end m
  pub two_or_five : (site.len ≡ 2) ⊎ (site.len ≡ 5)

pub site_of : (m : Module) (at n : ℕ) → IsAccepted m → site_at m.sites at ≡ Some n → IsSiteOf m at n
site_of m at n accepted is =
    let found = site_is (layout_of m) at n is in
    let inside = (sites_laid_out m accepted).inside n found.site found.here in
    let from = inside.from in
    let to = inside.to in
    let same = found.same in
    record {
      site = found.site;
      here = found.here;
      ours = found.ours;
      begins = same;
      from = omega (arith, from, same);
      to = omega (arith, to, same);
      two_or_five = inside.two_or_five;
    }

pub site_found : (m : Module) (n : ℕ) (s : Site) → IsAccepted m → slice_get m.sites n ≡ Some s → s.foreign ≡ false → site_at m.sites s.at ≡ Some n
site_found m n s accepted here ours =
    let laid = sites_laid_out m accepted in
    site_numbered (layout_of m) n s laid.inside laid.apart here ours

pub text_below : (m : Module) → IsAccepted m → text_end m < 2 ^ 64
text_below m accepted = (sites_laid_out m accepted).below

-- two sites that begin at one address have one number
pub one_number : (m : Module) (i j : ℕ) (s u : Site) → IsAccepted m → slice_get m.sites i ≡ Some s → slice_get m.sites j ≡ Some u → u.at ≡ s.at → j ≡ i
one_number m i j s u accepted here there same = by (cases_order j i)
  where
    laid : IsLaidOut m
    laid = sites_laid_out m accepted

    by : (j ≡ i) ⊎ ((j < i) ⊎ (i < j)) → j ≡ i
    by (inl is) = is
    by (inr (inl first)) =
        let ends = laid.apart j i u s first there here in
        let long = (laid.inside j u there).two_or_five in
        absurd (omega (arith, ends, long, same))
    by (inr (inr later)) =
        let ends = laid.apart i j s u later here there in
        let long = (laid.inside i s here).two_or_five in
        absurd (omega (arith, ends, long, same))

-- the form that it wants
pub record IsWanted (m : Module) (states : States) (at number : ℕ) (s : Site) : Type 0 where
  pub want : wants m states number ≡ Some (wanted_at m states at)
  pub code : List ℕ
  pub spelt : spell (wanted_at m states at) at ≡ Some code
  pub long : length code ≡ s.len
  pub size_is : size (wanted_at m states at) ≡ s.len

pub wanted_is : (m : Module) (states : States) (at n : ℕ) (s : Site) (form : Form) → slice_get m.sites n ≡ Some s → site_at m.sites at ≡ Some n → wants m states n ≡ Some form → wanted_at m states at ≡ form
wanted_is m states at n s form here is want =
    ap (λ (o : Option ℕ). wanted_by m states o) is ∙ ap (λ (o : Option Form). unwrap_or o Nop2) want

pub wanted_there : (m : Module) (states : States) (at n : ℕ) (accepted : IsAccepted m) → AreStatesOf m states → (is : site_at m.sites at ≡ Some n) → IsWanted m states at n (site_of m at n accepted is).site
wanted_there m states at n accepted states_of is =
    let there = site_of m at n accepted is in
    let s = there.site in
    let form : Form = form_of m states n s in
    let want : wants m states n ≡ Some form = wants_form m states n s there.here in
    let same = wanted_is m states at n s form there.here is want in
    let at_site = forms_reach m states n s form accepted states_of.leads there.here want in
    let spelt = ap (λ (f : Form). spell f at) same ∙ ap (λ (a : ℕ). spell form a) (sym there.begins) ∙ at_site.1 in
    record {
      want = want ∙ ap (λ (f : Form). Some f) (sym same);
      code = at_site.0;
      spelt = spelt;
      long = at_site.2;
      size_is = sym (length-spell (wanted_at m states at) at at_site.0 spelt) ∙ at_site.2;
    }

-- that form, done whole, leads from a start to a start
pub wanted_flows : (m : Module) (states : States) (at n : ℕ) (p : Proc) → IsAccepted m → AreStatesOf m states → site_at m.sites at ≡ Some n → Flows (layout_of m) p → p.life ≡ Running → Flows (layout_of m) (whole (wanted_at m states at) at p).0
wanted_flows m states at n p accepted states_of is flows runs =
    let there = site_of m at n accepted is in
    let wanted = wanted_there m states at n accepted states_of is in
    subst (λ (a : ℕ). Flows (layout_of m) (whole (wanted_at m states at) a p).0) there.begins
    (patched_flows m states n there.site (wanted_at m states at) p accepted states_of.leads there.here there.ours wanted.want flows runs)

-- a running processor that stands at no patched site stands at a plain instruction
pub plain_there : (m : Module) (p : Proc) → IsAccepted m → Flows (layout_of m) p → p.life ≡ Running → site_at m.sites p.ip ≡ None → HasInsn m p.ip
plain_there m p accepted flows runs no_site = by (starts_units m p.ip accepted (flows.stands runs))
  where
    by : HasSite m p.ip ⊎ HasInsn m p.ip → HasInsn m p.ip
    by (inr insn) = insn
    by (inl has) =
        let there = site_found m has.number has.is.site accepted has.is.here has.is.ours in
        let same : site_at m.sites p.ip ≡ Some has.number = ap (λ (a : ℕ). site_at m.sites a) (sym has.is.begins) ∙ there in
        absurd (none-some _ (sym no_site ∙ same))
