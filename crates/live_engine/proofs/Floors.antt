-- The floor of a site never falls, and bounds what is done at it.
use Rattle.std.proofs.Common.{◌≡◌, ◌≢◌, ◌+◌, ◌<◌, ◌≤◌, ◌/◌, ◌%◌, ◌==◌, ◌||◌, ◌⊎◌, ℕ, Bool, true, false, not, nat_lt, if◌then◌else◌, Option, Some, None, inl, inr, refl, ap, ◌∙◌, subst, arith}
use Rattle.std.proofs.lemmas.Bool.{eq-eqb, lt-ltb, ltb-true, ltb-false, ne_eqb}
use Rattle.live_text.specs.declared.plan.LivePlan.{LivePlan}
use Rattle.live_text.specs.declared.view.Shape.{Shape}
use Rattle.live_text.specs.declared.view.View.{View}
use Rattle.live_text.specs.Versions.{breakpoint_write, place_in}
use Rattle.live_engine.specs.Versions.{floor, is_past}

-- the floor over plain numbers: whether a request of the chunk was acknowledged, or the mark is past the breakpoint
abbrev pub past_at : Shape → ℕ → ℕ → ℕ → Option ℕ → Bool
past_at p ack mark j None = false
past_at p ack mark j (Some place) = not (ack % 3 == 0) || nat_lt (breakpoint_write p j place) mark

abbrev pub floor_at : LivePlan → Shape → ℕ → ℕ → ℕ → ℕ
floor_at plan p ack mark site = if past_at p ack mark (ack / 3) (place_in plan (ack / 3) site) then ack / 3 + 1 else ack / 3

past-is : (v : View) (j : ℕ) (o : Option ℕ) → is_past v j o ≡ past_at v.shape v.cpu.ack v.cpu.mark j o
past-is v j None = refl
past-is v j (Some place) = refl

pub floor-is : (plan : LivePlan) (v : View) (site : ℕ) → floor plan v site ≡ floor_at plan v.shape v.cpu.ack v.cpu.mark site
floor-is plan v site = ap (λ (b : Bool). if b then v.cpu.ack / 3 + 1 else v.cpu.ack / 3) (past-is v (v.cpu.ack / 3) (place_in plan (v.cpu.ack / 3) site))

-- one more at most
between : (b : Bool) (j : ℕ) → (j ≤ (if b then j + 1 else j)) × ((if b then j + 1 else j) ≤ j + 1)
between true j = (omega arith, omega arith)
between false j = (omega arith, omega arith)

pub floor-low : (plan : LivePlan) (v : View) (site : ℕ) → v.cpu.ack / 3 ≤ floor plan v site
floor-low plan v site = (between (is_past v (v.cpu.ack / 3) (place_in plan (v.cpu.ack / 3) site)) (v.cpu.ack / 3)).0

pub floor-high : (plan : LivePlan) (v : View) (site : ℕ) → floor plan v site ≤ v.cpu.ack / 3 + 1
floor-high plan v site = (between (is_past v (v.cpu.ack / 3) (place_in plan (v.cpu.ack / 3) site)) (v.cpu.ack / 3)).1

-- a choice that rises with its test
rises : (a b : Bool) (j : ℕ) → (a ≡ true → b ≡ true) → (if a then j + 1 else j) ≤ (if b then j + 1 else j)
rises true true j up = omega arith
rises true false j up = (let e : false ≡ true = up refl in cc)
rises false b j up = (between b j).0

-- a test or another
or-true : (a b : Bool) → b ≡ true → (a || b) ≡ true
or-true true b e = refl
or-true false b e = e

or-which : (a b : Bool) → (a || b) ≡ true → (a ≡ true) ⊎ (b ≡ true)
or-which true b e = inl refl
or-which false b e = inr e

either-past : (a : Bool) (n mark mark' : ℕ) → mark ≤ mark' → (a ≡ true) ⊎ (nat_lt n mark ≡ true) → (a || nat_lt n mark') ≡ true
either-past a n mark mark' le (inl e) = ap (λ (b : Bool). b || nat_lt n mark') e
either-past a n mark mark' le (inr e) =
    let lt : n < mark = ltb-true n mark e in
    or-true a (nat_lt n mark') (lt-ltb n mark' (omega arith))

-- the mark rises
past-by-mark : (p : Shape) (ack mark mark' j : ℕ) (o : Option ℕ) → mark ≤ mark' → past_at p ack mark j o ≡ true → past_at p ack mark' j o ≡ true
past-by-mark p ack mark mark' j None le e = e
past-by-mark p ack mark mark' j (Some place) le e = either-past (not (ack % 3 == 0)) (breakpoint_write p j place) mark mark' le (or-which (not (ack % 3 == 0)) (nat_lt (breakpoint_write p j place) mark) e)

-- a later request of the same chunk
past-by-request : (p : Shape) (ack ack' mark mark' j : ℕ) (o : Option ℕ) → ack' % 3 ≢ 0 → past_at p ack mark j o ≡ true → past_at p ack' mark' j o ≡ true
past-by-request p ack ack' mark mark' j None ne e = e
past-by-request p ack ack' mark mark' j (Some place) ne e = ap (λ (b : Bool). not b || nat_lt (breakpoint_write p j place) mark') (ne_eqb (ack' % 3) 0 ne)

floor_at-later : (plan : LivePlan) (p : Shape) (ack mark ack' mark' site : ℕ) → ack < ack' → (later : Bool) → nat_lt (ack / 3) (ack' / 3) ≡ later → floor_at plan p ack mark site ≤ floor_at plan p ack' mark' site
floor_at-later plan p ack mark ack' mark' site lt true is =
    let less : ack / 3 < ack' / 3 = ltb-true (ack / 3) (ack' / 3) is in
    let high : floor_at plan p ack mark site ≤ ack / 3 + 1 = (between (past_at p ack mark (ack / 3) (place_in plan (ack / 3) site)) (ack / 3)).1 in
    let low : ack' / 3 ≤ floor_at plan p ack' mark' site = (between (past_at p ack' mark' (ack' / 3) (place_in plan (ack' / 3) site)) (ack' / 3)).0 in
    omega arith
floor_at-later plan p ack mark ack' mark' site lt false is =
    let more : ack' / 3 ≤ ack / 3 = ltb-false (ack / 3) (ack' / 3) is in
    let same : ack / 3 ≡ ack' / 3 = omega arith in
    let ne : ack' % 3 ≢ 0 = (λ (e : ack' % 3 ≡ 0). omega arith) in
    subst (λ (j : ℕ). floor_at plan p ack mark site ≤ (if past_at p ack' mark' j (place_in plan j site) then j + 1 else j)) same
    (rises (past_at p ack mark (ack / 3) (place_in plan (ack / 3) site)) (past_at p ack' mark' (ack / 3) (place_in plan (ack / 3) site)) (ack / 3) (past-by-request p ack ack' mark mark' (ack / 3) (place_in plan (ack / 3) site) ne))

-- what was acknowledged rises, or else the mark
floor_at-rises : (plan : LivePlan) (p : Shape) (ack mark ack' mark' site : ℕ) → (ack < ack') ⊎ ((ack ≡ ack') × (mark ≤ mark')) → floor_at plan p ack mark site ≤ floor_at plan p ack' mark' site
floor_at-rises plan p ack mark ack' mark' site (inr (same, le)) =
    subst (λ (a : ℕ). floor_at plan p ack mark site ≤ floor_at plan p a mark' site) same
    (rises (past_at p ack mark (ack / 3) (place_in plan (ack / 3) site)) (past_at p ack mark' (ack / 3) (place_in plan (ack / 3) site)) (ack / 3) (past-by-mark p ack mark mark' (ack / 3) (place_in plan (ack / 3) site) le))
floor_at-rises plan p ack mark ack' mark' site (inl lt) = floor_at-later plan p ack mark ack' mark' site lt (nat_lt (ack / 3) (ack' / 3)) refl

pub floor-rises : (plan : LivePlan) (v w : View) (site : ℕ) → w.shape ≡ v.shape → (v.cpu.ack < w.cpu.ack) ⊎ ((v.cpu.ack ≡ w.cpu.ack) × (v.cpu.mark ≤ w.cpu.mark)) → floor plan v site ≤ floor plan w site
floor-rises plan v w site shape up =
    let a = floor-is plan v site in
    let b : floor plan w site ≡ floor_at plan v.shape w.cpu.ack w.cpu.mark site = floor-is plan w site ∙ ap (λ (p : Shape). floor_at plan p w.cpu.ack w.cpu.mark site) shape in
    let c = floor_at-rises plan v.shape v.cpu.ack v.cpu.mark w.cpu.ack w.cpu.mark site up in
    omega arith

-- where it is past, the floor is the next version
pub floor-past : (plan : LivePlan) (v : View) (site place : ℕ) → place_in plan (v.cpu.ack / 3) site ≡ Some place → (v.cpu.ack % 3 ≢ 0) ⊎ (breakpoint_write v.shape (v.cpu.ack / 3) place < v.cpu.mark) → floor plan v site ≡ v.cpu.ack / 3 + 1
floor-past plan v site place there (inl ne) =
    ap (λ (o : Option ℕ). if is_past v (v.cpu.ack / 3) o then v.cpu.ack / 3 + 1 else v.cpu.ack / 3) there
    ∙ ap (λ (b : Bool). if not b || nat_lt (breakpoint_write v.shape (v.cpu.ack / 3) place) v.cpu.mark then v.cpu.ack / 3 + 1 else v.cpu.ack / 3) (ne_eqb (v.cpu.ack % 3) 0 ne)
floor-past plan v site place there (inr lt) =
    ap (λ (o : Option ℕ). if is_past v (v.cpu.ack / 3) o then v.cpu.ack / 3 + 1 else v.cpu.ack / 3) there
    ∙ ap (λ (b : Bool). if b then v.cpu.ack / 3 + 1 else v.cpu.ack / 3) (or-true (not (v.cpu.ack % 3 == 0)) (nat_lt (breakpoint_write v.shape (v.cpu.ack / 3) place) v.cpu.mark) (lt-ltb (breakpoint_write v.shape (v.cpu.ack / 3) place) v.cpu.mark lt))

-- where it isn't, it is the version before
pub floor-none : (plan : LivePlan) (v : View) (site : ℕ) → place_in plan (v.cpu.ack / 3) site ≡ None → floor plan v site ≡ v.cpu.ack / 3
floor-none plan v site none = ap (λ (o : Option ℕ). if is_past v (v.cpu.ack / 3) o then v.cpu.ack / 3 + 1 else v.cpu.ack / 3) none

not-yet : (n mark j : ℕ) (b : Bool) → nat_lt n mark ≡ b → (n < mark → ⊥) → (if b then j + 1 else j) ≡ j
not-yet n mark j true is fine = absurd (fine (ltb-true n mark is))
not-yet n mark j false is fine = refl

pub floor-not-past : (plan : LivePlan) (v : View) (site place : ℕ) → place_in plan (v.cpu.ack / 3) site ≡ Some place → v.cpu.ack % 3 ≡ 0 → (breakpoint_write v.shape (v.cpu.ack / 3) place < v.cpu.mark → ⊥) → floor plan v site ≡ v.cpu.ack / 3
floor-not-past plan v site place there phase fine =
    ap (λ (o : Option ℕ). if is_past v (v.cpu.ack / 3) o then v.cpu.ack / 3 + 1 else v.cpu.ack / 3) there
    ∙ ap (λ (b : Bool). if not b || nat_lt (breakpoint_write v.shape (v.cpu.ack / 3) place) v.cpu.mark then v.cpu.ack / 3 + 1 else v.cpu.ack / 3) (eq-eqb (v.cpu.ack % 3) 0 phase)
    ∙ not-yet (breakpoint_write v.shape (v.cpu.ack / 3) place) v.cpu.mark (v.cpu.ack / 3) (nat_lt (breakpoint_write v.shape (v.cpu.ack / 3) place) v.cpu.mark) refl fine
