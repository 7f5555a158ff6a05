-- Each version of a site is a form that the site may want.
use Rattle.std.proofs.Common.{◌≡◌, ◌+◌, ◌<◌, ℕ, zero, suc, [], length, Option, Some, None, sym, subst, arith}
use Rattle.std.specs.Prelude.{MatchOption}
use Rattle.std.specs.List.{slice_get}
use Rattle.std.proofs.lemmas.Option.{get_or_from_slice_get, slice_get_within}
use Rattle.insn_forms.specs.declared.forms.Change.{Change}
use Rattle.insn_forms.specs.declared.forms.Form.TheVariants.{Nop2}
use Rattle.live_text.specs.declared.plan.LivePlan.{LivePlan}
use Rattle.live_text.specs.Laws.{ChunksMakeVersions}
use Rattle.live_text.specs.Own.{site_of}
use Rattle.live_text.specs.Plan.{chunks_of}
use Rattle.live_text.specs.Versions.{chunk_of, place_in, version, version_change}
use Rattle.module_image.specs.Module.{Module}
use Rattle.live_engine.specs.LivePlan.{IsLivePlan, IsWanted}
use Rattle.live_engine.proofs.SiteForms.{chunk-is}

-- so is the next one, where the one before is
next-wanted : (m : Module) (plan : LivePlan) (site n : ℕ) (placed : Option ℕ) → IsLivePlan m plan → MatchOption placed (version plan site (n + 1) ≡ version plan site n) (λ place. slice_get (chunk_of plan n) place ≡ Some (version_change plan site n)) → IsWanted m (site_of plan site).at (version plan site n) → IsWanted m (site_of plan site).at (version plan site (n + 1))
next-wanted m plan site n None is same before = subst (IsWanted m (site_of plan site).at) (sym same) before
next-wanted m plan site n (Some place) is here before =
    let c = version_change plan site n in
    let below = slice_get_within (chunks_of plan) n (chunk_of plan n) (chunk-is (chunks_of plan) n place c here) in
    let within = slice_get_within (chunk_of plan n) place c here in
    let there = get_or_from_slice_get (chunk_of plan n) place c c here in
    subst (λ (x : Change). IsWanted m x.at x.new) there (is.changes n [] below place c within)

pub version-wanted : ChunksMakeVersions → (m : Module) (plan : LivePlan) (site n : ℕ) → IsLivePlan m plan → site < length plan.sites.items → IsWanted m (site_of plan site).at (version plan site n)
version-wanted makes m plan site zero is listed = is.starts site (record { at = 0; start = Nop2 }) listed
version-wanted makes m plan site (suc n) is listed =
    let next = next-wanted m plan site n (place_in plan n site) is (makes plan n site is.stands listed) (version-wanted makes m plan site n is listed) in
    let same : n + 1 ≡ suc n = omega arith in
    subst (λ (k : ℕ). IsWanted m (site_of plan site).at (version plan site k)) same next
