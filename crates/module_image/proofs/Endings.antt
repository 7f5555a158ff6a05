-- The last unit of a swept text.
use Rattle.std.proofs.Common.{◌≡◌, ◌<◌, ◌≤◌, ◌+◌, ◌-◌, ◌∙◌, ◌==◌, ℕ, Bool, true, false, not, List, length, get_or, Some, ap, sym, arith, inl, inr}
use Rattle.std.specs.List.{slice_get}
use Rattle.std.proofs.lemmas.Bool.{and_parts, and_from, not-true, eqb-true, eq-eqb, cases_lt}
use Rattle.std.proofs.lemmas.Option.{same_Some, slice_get-get_or}
use Rattle.module_parts.specs.declared.unit.Unit.{Unit}
use Rattle.module_image.specs.Ending.{falls_off}
use Rattle.module_image.specs.Layout.{Layout, unit_at, unit_len, may_end, IsSwept, IsFalling}
use Rattle.module_image.proofs.Starts.{noted_unit}

-- none of the first n units falls off the end
abbrev pub NoneFalls : Layout → List Unit → ℕ → Type 0
NoneFalls t units n = (k : ℕ) (unit : Unit) → k < n → slice_get units k ≡ Some unit → falls_off t k unit ≡ false

pub none_more : (t : Layout) (units : List Unit) (n : ℕ) (d : Unit) (b : Bool) → NoneFalls t units n → n < length units → b ≡ falls_off t n (get_or units n d) → b ≡ false → NoneFalls t units (n + 1)
none_more t units n d b before lt told fails k unit below here = elim (cases_lt k n) [
  | inl first ↦ before k unit first here
  | inr not_first ↦ (
      let same : n ≡ k = omega (arith, below, not_first) in
      let is : get_or units n d ≡ unit = same_Some (get_or units n d) unit (sym (slice_get-get_or units n d lt) ∙ ap (slice_get units) same ∙ here) in
      ap (falls_off t k) (sym is) ∙ ap (λ (i : ℕ). falls_off t i (get_or units n d)) (sym same) ∙ sym told ∙ fails)
]

-- a unit that does is the last one
pub falls_there : (t : Layout) (units : List Unit) (n : ℕ) (d : Unit) (b : Bool) → IsSwept t units → n < length units → b ≡ falls_off t n (get_or units n d) → b ≡ true → IsFalling t (t.base + n)
falls_there t units n d b swept lt told passes =
    let unit = get_or units n d in
    let parts = and_parts (unit_len t unit == length t.text - n) (not (may_end t unit)) (sym told ∙ passes) in
    let len = eqb-true (unit_len t unit) (length t.text - n) parts.0 in
    let size = swept.same_length in
    let some : 0 < unit_len t unit = omega (arith, len, size, lt) in
    let there = swept.sound n unit (slice_get-get_or units n d lt) some in
    let same : unit_len t (unit_at t (t.base + n)) ≡ unit_len t unit = ap (unit_len t) there.1 in
    record {
      start = there.0;
      last = omega (arith, same, len, size, lt);
      falls = ap (may_end t) there.1 ∙ not-true (may_end t unit) parts.1;
    }

-- where none does, the last unit doesn't
pub none_falls : (t : Layout) (units : List Unit) (n : ℕ) → IsSwept t units → length units ≤ n → NoneFalls t units n → (at : ℕ) → IsFalling t at → ⊥
none_falls t units n swept done each at falling =
    let there = noted_unit t units at swept falling.start in
    let size = swept.same_length in
    let place : at - t.base < n = omega (arith, there.0, there.1, size, done) in
    let last = falling.last in
    let len : unit_len t (unit_at t at) ≡ length t.text - (at - t.base) = omega (arith, last, there.0) in
    let falls : not (may_end t (unit_at t at)) ≡ true = ap not falling.falls in
    let does : falls_off t (at - t.base) (unit_at t at) ≡ true = and_from (unit_len t (unit_at t at) == length t.text - (at - t.base)) (not (may_end t (unit_at t at))) (eq-eqb (unit_len t (unit_at t at)) (length t.text - (at - t.base)) len) falls in
    let fails = each (at - t.base) (unit_at t at) place there.2 in
    cc
