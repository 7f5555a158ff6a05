-- The versions of a site: what a chunk makes of each, that all have one size and a spelling, and where they are found.
use Rattle.std.proofs.Common.{◌≡◌, ◌≢◌, ◌+◌, ◌<◌, ◌/◌, ◌%◌, ◌||◌, ◌==◌, ℕ, zero, suc, Bool, true, false, if◌then◌else◌, List, [], ◌∷◌, length, get_or, Option, Some, None, AllPairs, refl, ap, sym, ◌∙◌, subst, arith}
use Rattle.std.specs.Prelude.{MatchOption, IsSome}
use Rattle.std.specs.List.{position, slice_get}
use Rattle.std.specs.Option.{is_none, is_some}
use Rattle.std.proofs.lemmas.Bool.{eq-eqb, ne_eqb, eqb-true}
use Rattle.std.proofs.lemmas.Option.{get_or_from_slice_get, slice_get-get_or, slice_get_within}
use Rattle.insn_forms.specs.declared.forms.Form.{Form}
use Rattle.insn_forms.specs.declared.forms.Form.TheVariants.{Nop2}
use Rattle.insn_forms.specs.declared.forms.Change.{Change}
use Rattle.insn_forms.specs.Spelling.{size, spell}
use Rattle.live_text.specs.declared.plan.LivePlan.{LivePlan}
use Rattle.live_text.specs.Laws.{ChunksMakeVersions}
use Rattle.live_text.specs.Own.{site_of}
use Rattle.live_text.specs.Plan.{IsChange, IsChunk, Stands, chunks_of}
use Rattle.live_text.specs.Versions.{chunk_of, is_at, place_in, version, version_change}
use Rattle.module_image.proofs.Positions.{IsFound, found_none, found_some}
use Rattle.poke_batch.specs.Walk.{new_form}
use Rattle.live_engine.specs.Lookup.{version_for}
use Rattle.live_engine.proofs.Lookups.{found, not_found}

-- a chunk that has a change is one of the plan's
pub chunk-is : (lists : List (List Change)) (j place : ℕ) (c : Change) → slice_get (get_or lists j []) place ≡ Some c → slice_get lists j ≡ Some (get_or lists j [])
chunk-is [] zero place c here = absurd (omega (arith, slice_get_within [] place c here))
chunk-is [] (suc j) place c here = absurd (omega (arith, slice_get_within [] place c here))
chunk-is (l ∷ lists) zero place c here = refl
chunk-is (l ∷ lists) (suc j) place c here = chunk-is lists j place c here

pub chunk-stands : (plan : LivePlan) (j place : ℕ) (c : Change) → Stands plan → slice_get (chunk_of plan j) place ≡ Some c → (earlier : List (List Change)) × IsChunk plan.sites.items earlier (chunk_of plan j)
chunk-stands plan j place c stands here = (_, stands.chunks j (chunk_of plan j) (chunk-is (chunks_of plan) j place c here))

-- what is said of a version of a site
pub record IsSpeltVersion (plan : LivePlan) (site n : ℕ) : Type 0 where
  pub one_size : size (version plan site n) ≡ size (site_of plan site).start
  pub spelt : IsSome (spell (version plan site n) (site_of plan site).at)

next-version : (plan : LivePlan) (site n : ℕ) (placed : Option ℕ) → Stands plan → MatchOption placed (version plan site (n + 1) ≡ version plan site n) (λ place. slice_get (chunk_of plan n) place ≡ Some (version_change plan site n)) → IsSpeltVersion plan site n → IsSpeltVersion plan site (n + 1)
next-version plan site n None stands same before = record {
  one_size = ap size same ∙ before.one_size;
  spelt = ap (λ (f : Form). is_some (spell f (site_of plan site).at)) same ∙ before.spelt;
}
next-version plan site n (Some place) stands here before =
    let c = version_change plan site n in
    let chunk = (chunk-stands plan n place c stands here).1 in
    let lt = slice_get_within (chunk_of plan n) place c here in
    let is = get_or_from_slice_get (chunk_of plan n) place c c here in
    let change = subst (λ (x : Change). IsChange plan.sites.items (chunk-stands plan n place c stands here).0 x) is (chunk.changes place c lt) in
    record { one_size = sym change.one_size ∙ before.one_size; spelt = change.new_spelt }

pub spelt-version : ChunksMakeVersions → (plan : LivePlan) (site n : ℕ) → Stands plan → site < length plan.sites.items → IsSpeltVersion plan site n
spelt-version makes plan site zero stands listed = record { one_size = refl; spelt = stands.spelt site (record { at = 0; start = Nop2 }) listed }
spelt-version makes plan site (suc n) stands listed =
    let next = next-version plan site n (place_in plan n site) stands (makes plan n site stands listed) (spelt-version makes plan site n stands listed) in
    let same : n + 1 ≡ suc n = omega arith in
    subst (IsSpeltVersion plan site) same next

-- a change is there by the test of its address
pub form-none : (chunk : List Change) (at : ℕ) → position (is_at at) chunk ≡ None → new_form chunk at ≡ None
form-none chunk at none =
    not_found chunk at (λ k d lt equal. let fails = found_none (is_at at) chunk k (get_or chunk k d) none (slice_get-get_or chunk k d lt) in let holds = eq-eqb (get_or chunk k d).at at equal in cc)

pub form-some : (chunk : List Change) (at place : ℕ) → AllPairs (λ (p q : Change). p.at < q.at) chunk → position (is_at at) chunk ≡ Some place → (c : Change) → slice_get chunk place ≡ Some c → new_form chunk at ≡ Some (c.new, size c.new)
form-some chunk at place up there c here =
    let is : IsFound (is_at at) chunk place = found_some (is_at at) chunk place there in
    let same : Some is.item ≡ Some c = sym is.here ∙ here in
    let lt = slice_get_within chunk place c here in
    let same_item : is.item ≡ c = cc in
    let at_is : c.at ≡ at = ap (λ (x : Change). x.at) (sym same_item) ∙ eqb-true is.item.at at is.passes in
    let item_is = get_or_from_slice_get chunk place c c here in
    found chunk at place c up lt (ap (λ (x : Change). x.at) item_is ∙ at_is) ∙ ap (λ (x : Change). Some (x.new, size x.new)) item_is

either : (b : Bool) (m n : ℕ) → (if b || true then m else n) ≡ m
either true m n = refl
either false m n = refl

-- the version that an untrapped processor does, by its phase
pub number-none : (plan : LivePlan) (g site : ℕ) → place_in plan (g / 3) site ≡ None → version_for plan g (site_of plan site).at ≡ g / 3
number-none plan g site none =
    let e : new_form (chunk_of plan (g / 3)) (site_of plan site).at ≡ None = form-none (chunk_of plan (g / 3)) (site_of plan site).at none in
    ap (λ (o : Option (Form × ℕ)). if g % 3 == 0 || is_none o then g / 3 else g / 3 + 1) e ∙ either (g % 3 == 0) (g / 3) (g / 3 + 1)

pub number-first : (plan : LivePlan) (g site : ℕ) → g % 3 ≡ 0 → version_for plan g (site_of plan site).at ≡ g / 3
number-first plan g site phase =
    ap (λ (b : Bool). if b || is_none (new_form (chunk_of plan (g / 3)) (site_of plan site).at) then g / 3 else g / 3 + 1) (eq-eqb (g % 3) 0 phase)

pub number-later : (plan : LivePlan) (g site : ℕ) (f : Form × ℕ) → g % 3 ≢ 0 → new_form (chunk_of plan (g / 3)) (site_of plan site).at ≡ Some f → version_for plan g (site_of plan site).at ≡ g / 3 + 1
number-later plan g site f phase is =
    ap (λ (b : Bool). if b || is_none (new_form (chunk_of plan (g / 3)) (site_of plan site).at) then g / 3 else g / 3 + 1) (ne_eqb (g % 3) 0 phase)
    ∙ ap (λ (o : Option (Form × ℕ)). if is_none o then g / 3 else g / 3 + 1) is
