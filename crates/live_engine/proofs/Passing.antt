-- What a pass says of the version that was done, and what a fetched breakpoint says of the chunk.
use Rattle.std.proofs.Common.{◌≡◌, ◌≢◌, ◌+◌, ◌-◌, ◌<◌, ◌≤◌, ◌/◌, ◌%◌, ℕ, zero, suc, length, Option, Some, None, inl, refl, ap, sym, ◌∙◌, subst, arith}
use Rattle.std.specs.Prelude.{MatchOption}
use Rattle.std.specs.List.{slice_get}
use Rattle.std.specs.Option.{is_some}
use Rattle.insn_forms.specs.Spelling.{size}
use Rattle.live_text.specs.declared.plan.LivePlan.{LivePlan}
use Rattle.live_text.specs.declared.view.Shape.{Shape}
use Rattle.live_text.specs.declared.view.View.{View}
use Rattle.live_text.specs.Flat.{shape_of}
use Rattle.live_text.specs.Laws.{BreakpointsAreWritten, FirstBytesAreBreakpoints, IsBetween}
use Rattle.live_text.specs.Own.{HasByte, byte_number, site_of}
use Rattle.live_text.specs.Past.{Found, cut, seek, value}
use Rattle.live_text.specs.Rule.{cached}
use Rattle.live_text.specs.Seats.{Sits}
use Rattle.live_text.specs.Versions.{breakpoint_write, chunk_of, place_in, version, version_change}
use Rattle.poke_batch.specs.Walk.{new_form}
use Rattle.live_engine.specs.Lookup.{version_for}
use Rattle.live_engine.specs.Versions.{IsAllowed, IsOneOf, floor}
use Rattle.live_engine.proofs.DecodedForms.{no-form-traps}
use Rattle.live_engine.proofs.Floors.{floor-high, floor-low, floor-none, floor-not-past, floor-past}
use Rattle.live_engine.proofs.Phased.{HasPhases, seek-from}
use Rattle.live_engine.proofs.SiteForms.{chunk-stands, form-some, number-first, number-later, number-none}

-- a cached byte stood there at a time since the mark
pub record Seen (v : View) (b byte : ℕ) : Type 0 where
  pub k : ℕ
  pub between : IsBetween v.shape v.cpu.ack k
  pub since : v.cpu.mark ≤ k
  pub known : k ≤ v.cpu.known
  pub is : value v.shape k b ≡ byte

pub seen : (v : View) (b byte : ℕ) → Sits v → cached v.cpu b ≡ Some byte → Seen v b byte
seen v b byte sits here =
    let f : Found v.shape v.cpu.mark v.cpu.known b byte = sits.cache_is b byte here in
    let k : ℕ = seek v.shape b byte v.cpu.mark (v.cpu.known - v.cpu.mark) in
    let low : v.cpu.mark ≤ k = seek-from v.shape b byte v.cpu.mark (v.cpu.known - v.cpu.mark) in
    let high : k ≤ v.cpu.known = f.by in
    let above = sits.mark_above in
    let near = sits.near in
    record { k = k; between = record { from = omega arith; to = omega arith }; since = low; known = high; is = f.same }

-- the new form of a changed site is found in its chunk
pub changed-form : (plan : LivePlan) (j site place : ℕ) → HasPhases plan → site < length plan.sites.items → place_in plan j site ≡ Some place → new_form (chunk_of plan j) (site_of plan site).at ≡ Some (version plan site (j + 1), size (version plan site (j + 1)))
changed-form plan j site place laws listed there =
    let made : MatchOption (place_in plan j site) (version plan site (j + 1) ≡ version plan site j) (λ place. slice_get (chunk_of plan j) place ≡ Some (version_change plan site j)) = laws.versions plan j site laws.stands listed in
    let here : slice_get (chunk_of plan j) place ≡ Some (version_change plan site j) = subst (λ (o : Option ℕ). MatchOption o (version plan site (j + 1) ≡ version plan site j) (λ place. slice_get (chunk_of plan j) place ≡ Some (version_change plan site j))) there made in
    form-some (chunk_of plan j) (site_of plan site).at place (chunk-stands plan j place (version_change plan site j) laws.stands here).1.ascend there (version_change plan site j) here

later-version : (plan : LivePlan) (g site place r : ℕ) → HasPhases plan → site < length plan.sites.items → place_in plan (g / 3) site ≡ Some place → g % 3 ≡ suc r → version_for plan g (site_of plan site).at ≡ g / 3 + 1
later-version plan g site place r laws listed there phase = number-later plan g site _ (λ (e : g % 3 ≡ 0). omega arith) (changed-form plan (g / 3) site place laws listed there)

-- the version is one that the acknowledgement allows
allowed-by : (plan : LivePlan) (g site r : ℕ) (placed : Option ℕ) → HasPhases plan → site < length plan.sites.items → place_in plan (g / 3) site ≡ placed → g % 3 ≡ r → IsOneOf (is_some placed) r (g / 3) (version_for plan g (site_of plan site).at)
allowed-by plan g site r None laws listed there phase = number-none plan g site there
allowed-by plan g site zero (Some place) laws listed there phase = inl (number-first plan g site phase)
allowed-by plan g site (suc r) (Some place) laws listed there phase = later-version plan g site place r laws listed there phase

pub allowed : (plan : LivePlan) (g site : ℕ) → HasPhases plan → site < length plan.sites.items → IsAllowed plan site g (version_for plan g (site_of plan site).at)
allowed plan g site laws listed = allowed-by plan g site (g % 3) (place_in plan (g / 3) site) laws listed refl refl

-- it isn't above the floor
to-by : (plan : LivePlan) (v : View) (site r : ℕ) (placed : Option ℕ) → HasPhases plan → site < length plan.sites.items → place_in plan (v.cpu.ack / 3) site ≡ placed → v.cpu.ack % 3 ≡ r → version_for plan v.cpu.ack (site_of plan site).at ≤ floor plan v site
to-by plan v site r None laws listed there phase =
    let n = number-none plan v.cpu.ack site there in
    let f = floor-low plan v site in
    omega arith
to-by plan v site zero (Some place) laws listed there phase =
    let n = number-first plan v.cpu.ack site phase in
    let f = floor-low plan v site in
    omega arith
to-by plan v site (suc r) (Some place) laws listed there phase =
    let n = later-version plan v.cpu.ack site place r laws listed there phase in
    let f = floor-past plan v site place there (inl (λ (e : v.cpu.ack % 3 ≡ 0). omega arith)) in
    omega arith

pub at-most-floor : (plan : LivePlan) (v : View) (site : ℕ) → HasPhases plan → site < length plan.sites.items → version_for plan v.cpu.ack (site_of plan site).at ≤ floor plan v site
at-most-floor plan v site laws listed = to-by plan v site (v.cpu.ack % 3) (place_in plan (v.cpu.ack / 3) site) laws listed refl refl

-- nor below it, where the first byte is no breakpoint
from-by : (plan : LivePlan) (cpus : ℕ) (v : View) (site first r : ℕ) (placed : Option ℕ) → HasPhases plan → FirstBytesAreBreakpoints → v.shape ≡ shape_of plan cpus → site < length plan.sites.items → Seen v (byte_number plan site 0) first → first ≢ 0xcc → place_in plan (v.cpu.ack / 3) site ≡ placed → v.cpu.ack % 3 ≡ r → floor plan v site ≤ version_for plan v.cpu.ack (site_of plan site).at
from-by plan cpus v site first r None laws breakpoints shape listed s fine there phase =
    let n = number-none plan v.cpu.ack site there in
    let f = floor-none plan v site there in
    omega arith
from-by plan cpus v site first zero (Some place) laws breakpoints shape listed s fine there phase =
    let n = number-first plan v.cpu.ack site phase in
    let between = subst (λ (p : Shape). IsBetween p v.cpu.ack s.k) shape s.between in
    let is = subst (λ (p : Shape). value p s.k (byte_number plan site 0) ≡ first) shape s.is in
    let since = s.since in
    let f = floor-not-past plan v site place there phase (λ (lt : breakpoint_write v.shape (v.cpu.ack / 3) place < v.cpu.mark).
    let past : breakpoint_write (shape_of plan cpus) (v.cpu.ack / 3) place < s.k = subst (λ (p : Shape). breakpoint_write p (v.cpu.ack / 3) place < s.k) shape (omega arith) in
    fine (sym is ∙ (breakpoints plan cpus v.cpu.ack s.k site place laws.stands listed between phase there).1 past)) in
    omega arith
from-by plan cpus v site first (suc r) (Some place) laws breakpoints shape listed s fine there phase =
    let n = later-version plan v.cpu.ack site place r laws listed there phase in
    let f = floor-high plan v site in
    omega arith

pub at-least-floor : (plan : LivePlan) (cpus : ℕ) (v : View) (site first : ℕ) → HasPhases plan → FirstBytesAreBreakpoints → v.shape ≡ shape_of plan cpus → site < length plan.sites.items → Seen v (byte_number plan site 0) first → first ≢ 0xcc → floor plan v site ≤ version_for plan v.cpu.ack (site_of plan site).at
at-least-floor plan cpus v site first laws breakpoints shape listed s fine = from-by plan cpus v site first (v.cpu.ack % 3) (place_in plan (v.cpu.ack / 3) site) laws breakpoints shape listed s fine refl refl

-- a breakpoint that was fetched is one of the chunk that is under way, and its write is known
pub record IsHit (plan : LivePlan) (v : View) (site : ℕ) : Type 0 where
  pub place : ℕ
  pub in_chunk : place_in plan (v.cpu.ack / 3) site ≡ Some place
  pub knows : breakpoint_write v.shape (v.cpu.ack / 3) place < v.cpu.known

hit-by : (plan : LivePlan) (cpus : ℕ) (v : View) (site r : ℕ) (placed : Option ℕ) → HasPhases plan → FirstBytesAreBreakpoints → BreakpointsAreWritten → v.shape ≡ shape_of plan cpus → Sits v → HasByte plan site 0 → Seen v (byte_number plan site 0) 0xcc → place_in plan (v.cpu.ack / 3) site ≡ placed → v.cpu.ack % 3 ≡ r → IsHit plan v site
hit-by plan cpus v site r None laws breakpoints written shape sits has s there phase =
    let between = subst (λ (p : Shape). IsBetween p v.cpu.ack s.k) shape s.between in
    let is = subst (λ (p : Shape). value p s.k (byte_number plan site 0) ≡ 0xcc) shape s.is in
    absurd (no-form-traps (version plan site (v.cpu.ack / 3)) (site_of plan site).at (sym (laws.others plan cpus v.cpu.ack s.k site 0 laws.stands has between (ap is_some there)) ∙ is))
hit-by plan cpus v site zero (Some place) laws breakpoints written shape sits has s there phase =
    let between = subst (λ (p : Shape). IsBetween p v.cpu.ack s.k) shape s.between in
    let is = subst (λ (p : Shape). value p s.k (byte_number plan site 0) ≡ 0xcc) shape s.is in
    let past = (breakpoints plan cpus v.cpu.ack s.k site place laws.stands has.listed between phase there).0 is in
    let past_there : breakpoint_write v.shape (v.cpu.ack / 3) place < s.k = subst (λ (p : Shape). breakpoint_write p (v.cpu.ack / 3) place < s.k) (sym shape) past in
    let known = s.known in
    record { place = place; in_chunk = there; knows = omega arith }
hit-by plan cpus v site (suc r) (Some place) laws breakpoints written shape sits has s there phase =
    let before = (written plan cpus (v.cpu.ack / 3) site place laws.stands has.listed there).before v.cpu.ack (omega arith) in
    let before_there : breakpoint_write v.shape (v.cpu.ack / 3) place < cut v.shape v.cpu.ack = subst (λ (p : Shape). breakpoint_write p (v.cpu.ack / 3) place < cut p v.cpu.ack) (sym shape) before in
    let above = sits.mark_above in
    let below = sits.mark_below in
    record { place = place; in_chunk = there; knows = omega arith }

pub is-hit : (plan : LivePlan) (cpus : ℕ) (v : View) (site : ℕ) → HasPhases plan → FirstBytesAreBreakpoints → BreakpointsAreWritten → v.shape ≡ shape_of plan cpus → Sits v → HasByte plan site 0 → Seen v (byte_number plan site 0) 0xcc → IsHit plan v site
is-hit plan cpus v site laws breakpoints written shape sits has s = hit-by plan cpus v site (v.cpu.ack % 3) (place_in plan (v.cpu.ack / 3) site) laws breakpoints written shape sits has s refl refl
