-- What a processor that isn't trapped finds of a site: the bytes of one version, unless the first is a breakpoint.
use Rattle.std.proofs.Common.{◌≡◌, ◌≢◌, ◌+◌, ◌-◌, ◌≤◌, ◌/◌, ◌%◌, ◌==◌, ℕ, zero, suc, Bool, true, false, if◌then◌else◌, Option, Some, None, inl, inr, refl, ap, sym, subst, arith}
use Rattle.std.specs.Prelude.{MatchOption, IsSome, IsNone, slice_index}
use Rattle.std.specs.Option.{is_some}
use Rattle.std.specs.List.{slice_get}
use Rattle.insn_forms.specs.declared.forms.Form.{Form}
use Rattle.insn_forms.specs.declared.forms.Change.{Change}
use Rattle.live_text.specs.declared.plan.LivePlan.{LivePlan}
use Rattle.live_text.specs.declared.view.Shape.{Shape}
use Rattle.live_text.specs.declared.view.View.{View}
use Rattle.live_text.specs.Flat.{shape_of}
use Rattle.live_text.specs.Laws.{ChangedBytesAreInTheTable, ChunksMakeVersions, IsBetween, OtherBytesAreOfTheForm}
use Rattle.live_text.specs.Own.{HasByte, byte_number, site_of}
use Rattle.live_text.specs.Past.{Found, seek, value}
use Rattle.live_text.specs.Plan.{Stands}
use Rattle.live_text.specs.Rule.{cached}
use Rattle.live_text.specs.Seats.{Sits}
use Rattle.live_text.specs.Table.{IsInTable}
use Rattle.live_text.specs.Versions.{chunk_of, place_in, version, version_change}
use Rattle.poke_batch.specs.Poke.{spelled}
use Rattle.live_engine.specs.Lookup.{version_for}
use Rattle.live_engine.proofs.SiteForms.{chunk-stands, form-some, number-first, number-later, number-none}

-- the laws that this stands on
pub record HasPhases (plan : LivePlan) : Type 0 where
  pub stands : Stands plan
  pub versions : ChunksMakeVersions
  pub table : ChangedBytesAreInTheTable
  pub others : OtherBytesAreOfTheForm

here-or-later : (here : Bool) (k later : ℕ) → k + 1 ≤ later → k ≤ (if here then k else later)
here-or-later true k later le = omega arith
here-or-later false k later le = omega arith

-- a search goes upwards
pub seek-from : (p : Shape) (b v k n : ℕ) → k ≤ seek p b v k n
seek-from p b v k zero = omega arith
seek-from p b v k (suc n) = here-or-later (value p k b == v) k (seek p b v (k + 1) n) (seek-from p b v (k + 1) n)

-- a cached byte is one that stood there between two requests
pub record Stood (p : Shape) (g b v : ℕ) : Type 0 where
  pub k : ℕ
  pub between : IsBetween p g k
  pub is : value p k b ≡ v

pub stood : (v : View) (b byte : ℕ) → Sits v → cached v.cpu b ≡ Some byte → Stood v.shape v.cpu.ack b byte
stood v b byte sits here =
    let f : Found v.shape v.cpu.mark v.cpu.known b byte = sits.cache_is b byte here in
    let k : ℕ = seek v.shape b byte v.cpu.mark (v.cpu.known - v.cpu.mark) in
    let low : v.cpu.mark ≤ k = seek-from v.shape b byte v.cpu.mark (v.cpu.known - v.cpu.mark) in
    let high : k ≤ v.cpu.known = f.by in
    let above = sits.mark_above in
    let near = sits.near in
    record { k = k; between = record { from = omega arith; to = omega arith }; is = f.same }

-- lines of the table, in its three phases
old-head : (c : Change) (v : ℕ) → IsInTable 0 c 0 v → v ≢ 0xcc → v ≡ slice_index (spelled c.old c.at) 0
old-head c v (inl e) fine = e
old-head c v (inr e) fine = absurd (fine e)

old-tail : (c : Change) (j v : ℕ) → IsInTable 0 c (suc j) v → v ≡ slice_index (spelled c.old c.at) (suc j)
old-tail c j v (inl e) = e
old-tail c j v (inr e) = e

never : (c : Change) (v : ℕ) → IsInTable 1 c 0 v → v ≢ 0xcc → ⊥
never c v (inl e) fine = fine e
never c v (inr e) fine = fine e

new-head : (c : Change) (v : ℕ) → IsInTable 2 c 0 v → v ≢ 0xcc → v ≡ slice_index (spelled c.new c.at) 0
new-head c v (inl e) fine = absurd (fine e)
new-head c v (inr e) fine = e

new-tail : (c : Change) (j v : ℕ) → IsInTable 2 c (suc j) v → v ≡ slice_index (spelled c.new c.at) (suc j)
new-tail c j v (inl e) = e
new-tail c j v (inr e) = e

-- the bytes of a site are those of a form, but for a breakpoint
pub record ReadsAs (plan : LivePlan) (cpus g site : ℕ) (form : Form) : Type 0 where
  pub head : (k : ℕ) → IsBetween (shape_of plan cpus) g k → HasByte plan site 0 → value (shape_of plan cpus) k (byte_number plan site 0) ≢ 0xcc → value (shape_of plan cpus) k (byte_number plan site 0) ≡ slice_index (spelled form (site_of plan site).at) 0
  pub tail : (k j : ℕ) → IsBetween (shape_of plan cpus) g k → HasByte plan site (suc j) → value (shape_of plan cpus) k (byte_number plan site (suc j)) ≡ slice_index (spelled form (site_of plan site).at) (suc j)

-- a site that the chunk doesn't change
reads-other : (plan : LivePlan) (cpus g site : ℕ) → HasPhases plan → IsNone (place_in plan (g / 3) site) → ReadsAs plan cpus g site (version plan site (g / 3))
reads-other plan cpus g site laws none = record {
  head = λ k between has no. laws.others plan cpus g k site 0 laws.stands has between none;
  tail = λ k j between has. laws.others plan cpus g k site (suc j) laws.stands has between none;
}

reads-old : (plan : LivePlan) (cpus g site : ℕ) → HasPhases plan → IsSome (place_in plan (g / 3) site) → g % 3 ≡ 0 → ReadsAs plan cpus g site (version plan site (g / 3))
reads-old plan cpus g site laws some phase = record {
  head = λ k between has no. old-head (version_change plan site (g / 3)) (value (shape_of plan cpus) k (byte_number plan site 0)) (subst (λ (r : ℕ). IsInTable r (version_change plan site (g / 3)) 0 (value (shape_of plan cpus) k (byte_number plan site 0))) phase (laws.table plan cpus g k site 0 laws.stands has between some)) no;
  tail = λ k j between has. old-tail (version_change plan site (g / 3)) j (value (shape_of plan cpus) k (byte_number plan site (suc j))) (subst (λ (r : ℕ). IsInTable r (version_change plan site (g / 3)) (suc j) (value (shape_of plan cpus) k (byte_number plan site (suc j)))) phase (laws.table plan cpus g k site (suc j) laws.stands has between some));
}

reads-new : (plan : LivePlan) (cpus g site : ℕ) → HasPhases plan → IsSome (place_in plan (g / 3) site) → g % 3 ≡ 2 → ReadsAs plan cpus g site (version plan site (g / 3 + 1))
reads-new plan cpus g site laws some phase = record {
  head = λ k between has no. new-head (version_change plan site (g / 3)) (value (shape_of plan cpus) k (byte_number plan site 0)) (subst (λ (r : ℕ). IsInTable r (version_change plan site (g / 3)) 0 (value (shape_of plan cpus) k (byte_number plan site 0))) phase (laws.table plan cpus g k site 0 laws.stands has between some)) no;
  tail = λ k j between has. new-tail (version_change plan site (g / 3)) j (value (shape_of plan cpus) k (byte_number plan site (suc j))) (subst (λ (r : ℕ). IsInTable r (version_change plan site (g / 3)) (suc j) (value (shape_of plan cpus) k (byte_number plan site (suc j)))) phase (laws.table plan cpus g k site (suc j) laws.stands has between some));
}

-- what is found where the first byte was seen, and was no breakpoint
reads-changed : (plan : LivePlan) (cpus g site k place r : ℕ) → HasPhases plan → HasByte plan site 0 → place_in plan (g / 3) site ≡ Some place → IsBetween (shape_of plan cpus) g k → value (shape_of plan cpus) k (byte_number plan site 0) ≢ 0xcc → g % 3 ≡ r → ReadsAs plan cpus g site (version plan site (version_for plan g (site_of plan site).at))
reads-changed plan cpus g site k place zero laws has there between fine phase =
    subst (λ (n : ℕ). ReadsAs plan cpus g site (version plan site n)) (sym (number-first plan g site phase))
    (reads-old plan cpus g site laws (ap is_some there) phase)
reads-changed plan cpus g site k place (suc zero) laws has there between fine phase =
    absurd (never (version_change plan site (g / 3)) (value (shape_of plan cpus) k (byte_number plan site 0)) (subst (λ (r : ℕ). IsInTable r (version_change plan site (g / 3)) 0 (value (shape_of plan cpus) k (byte_number plan site 0))) phase (laws.table plan cpus g k site 0 laws.stands has between (ap is_some there))) fine)
reads-changed plan cpus g site k place (suc (suc zero)) laws has there between fine phase =
    let made : MatchOption (place_in plan (g / 3) site) (version plan site (g / 3 + 1) ≡ version plan site (g / 3)) (λ place. slice_get (chunk_of plan (g / 3)) place ≡ Some (version_change plan site (g / 3))) = laws.versions plan (g / 3) site laws.stands has.listed in
    let here : slice_get (chunk_of plan (g / 3)) place ≡ Some (version_change plan site (g / 3)) = subst (λ (o : Option ℕ). MatchOption o (version plan site (g / 3 + 1) ≡ version plan site (g / 3)) (λ place. slice_get (chunk_of plan (g / 3)) place ≡ Some (version_change plan site (g / 3)))) there made in
    let up = (chunk-stands plan (g / 3) place (version_change plan site (g / 3)) laws.stands here).1.ascend in
    let form_is = form-some (chunk_of plan (g / 3)) (site_of plan site).at place up there (version_change plan site (g / 3)) here in
    subst (λ (n : ℕ). ReadsAs plan cpus g site (version plan site n)) (sym (number-later plan g site _ (λ (e : g % 3 ≡ 0). omega arith) form_is))
    (reads-new plan cpus g site laws (ap is_some there) phase)
reads-changed plan cpus g site k place (suc (suc (suc r))) laws has there between fine phase = absurd (omega arith)

pub reads-as : (plan : LivePlan) (cpus g site k : ℕ) (placed : Option ℕ) → HasPhases plan → HasByte plan site 0 → place_in plan (g / 3) site ≡ placed → IsBetween (shape_of plan cpus) g k → value (shape_of plan cpus) k (byte_number plan site 0) ≢ 0xcc → ReadsAs plan cpus g site (version plan site (version_for plan g (site_of plan site).at))
reads-as plan cpus g site k None laws has there between fine =
    subst (λ (n : ℕ). ReadsAs plan cpus g site (version plan site n)) (sym (number-none plan g site there))
    (reads-other plan cpus g site laws (ap is_some there))
reads-as plan cpus g site k (Some place) laws has there between fine = reads-changed plan cpus g site k place (g % 3) laws has there between fine refl
