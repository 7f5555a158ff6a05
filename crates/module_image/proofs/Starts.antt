-- What a swept text tells of the addresses where units begin.
use Rattle.std.proofs.Common.{◌≡◌, ◌<◌, ◌≤◌, ◌+◌, ◌-◌, ◌∙◌, ◌⊎◌, ◌↔◌, ℕ, zero, suc, Bool, true, false, if◌then◌else◌, nat_lt, List, Option, Some, None, refl, ap, sym, subst, arith, inl, inr}
use Rattle.std.specs.List.{slice_get}
use Rattle.std.proofs.lemmas.Bool.{le-ltb, ltb-false}
use Rattle.module_parts.specs.declared.unit.Unit.{Unit}
use Rattle.module_parts.specs.declared.unit.Unit.TheVariants.{Nothing, Plain, Site as PatchedSite}
use Rattle.module_image.specs.Layout.{Layout, text_end, unit_at, unit_len, IsStart, IsSwept}
use Rattle.module_image.specs.Leads.{is_unit, begins_at}

-- a unit that is one has a length
long_or_nothing : (t : Layout) (units : List Unit) (k : ℕ) (unit : Unit) → IsSwept t units → slice_get units k ≡ Some unit → (n : ℕ) → unit_len t unit ≡ n → (unit ≡ Nothing) ⊎ (0 < unit_len t unit)
long_or_nothing t units k unit swept here zero len = inl (swept.blank k unit here len)
long_or_nothing t units k unit swept here (suc n) len = inr (omega (arith, len))

-- what is noted at an offset, if it is no nothing, is the unit there
pub is_noted : (t : Layout) (units : List Unit) (k : ℕ) (unit : Unit) → IsSwept t units → slice_get units k ≡ Some unit → (unit ≡ Nothing → ⊥) → IsStart t (t.base + k) × (unit_at t (t.base + k) ≡ unit) × (0 < unit_len t unit)
is_noted t units k unit swept here some = elim (long_or_nothing t units k unit swept here (unit_len t unit) refl) [
  | inl none ↦ absurd (some none)
  | inr long ↦ (let there = swept.sound k unit here long in (there.0, there.1, long))
]

-- what is noted at a start is the unit there
pub noted_unit : (t : Layout) (units : List Unit) (a : ℕ) → IsSwept t units → IsStart t a → (t.base ≤ a) × (a < text_end t) × (slice_get units (a - t.base) ≡ Some (unit_at t a)) × (0 < unit_len t (unit_at t a))
noted_unit t units a swept start =
    let there = swept.complete a start in
    let place : t.base + (a - t.base) ≡ a = omega (arith, there.0) in
    let is : there.2.unit ≡ unit_at t a = sym (swept.sound (a - t.base) there.2.unit there.2.get there.2.some).1 ∙ ap (unit_at t) place in
    let len : unit_len t there.2.unit ≡ unit_len t (unit_at t a) = ap (unit_len t) is in
    let some = there.2.some in
    (there.0, there.1, there.2.get ∙ ap Some is, omega (arith, len, some))

-- a unit begins where the list says so
unit_is : (t : Layout) (unit : Unit) → 0 < unit_len t unit → is_unit (Some unit) ≡ true
unit_is t Nothing some = absurd (omega (arith, some))
unit_is t (Plain insn len) some = refl
unit_is t (PatchedSite n) some = refl

begins_noted : (t : Layout) (units : List Unit) (k : ℕ) (o : Option Unit) → IsSwept t units → slice_get units k ≡ o → is_unit o ≡ true → IsStart t (t.base + k)
begins_noted t units k None swept is begins = cc
begins_noted t units k (Some Nothing) swept is begins = cc
begins_noted t units k (Some (Plain insn len)) swept is begins = (is_noted t units k (Plain insn len) swept is (λ e. cc)).0
begins_noted t units k (Some (PatchedSite n)) swept is begins = (is_noted t units k (PatchedSite n) swept is (λ e. cc)).0

begins_past : (t : Layout) (units : List Unit) (at : ℕ) (b : Bool) → IsSwept t units → nat_lt at t.base ≡ b → (if b then false else is_unit (slice_get units (at - t.base))) ≡ true → IsStart t at
begins_past t units at true swept before begins = cc
begins_past t units at false swept from begins =
    let le = ltb-false at t.base from in
    let place : t.base + (at - t.base) ≡ at = omega (arith, le) in
    subst (IsStart t) place (begins_noted t units (at - t.base) (slice_get units (at - t.base)) swept refl begins)

pub begins_start : (t : Layout) (units : List Unit) (at : ℕ) → IsSwept t units → (begins_at t.base units at ≡ true) ↔ IsStart t at
begins_start t units at swept = (
  begins_past t units at (nat_lt at t.base) swept refl,
  λ start. (let there = noted_unit t units at swept start in rw (le-ltb at t.base there.0, there.2) (unit_is t (unit_at t at) there.3)),
)
