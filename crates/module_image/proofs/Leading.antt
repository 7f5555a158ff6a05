-- The first thing of a list that leads where no unit begins.
use Rattle.std.proofs.Common.{◌≡◌, ◌<◌, ◌≤◌, ◌+◌, ◌-◌, ◌∙◌, ◌==◌, ℕ, zero, suc, Bool, true, false, if◌then◌else◌, List, [], ◌∷◌, length, get_or, map, Option, Some, None, MatchOption, refl, ap, sym, subst, arith, inl, inr}
use Rattle.std.specs.List.{slice_get}
use Rattle.std.proofs.lemmas.Bool.{cases_lt}
use Rattle.std.proofs.lemmas.Option.{same_Some, slice_get-get_or}
use Rattle.module_parts.specs.declared.key.Key.{Key}
use Rattle.module_parts.specs.declared.key.KeyClass.{KeyClass}
use Rattle.module_parts.specs.declared.key.KeyClass.TheVariants.{Jump as JumpKey, Call as CallKey}
use Rattle.module_parts.specs.declared.site.Site.{Site}
use Rattle.module_parts.specs.declared.site.SiteKind.{SiteKind}
use Rattle.module_parts.specs.declared.site.SiteKind.TheVariants.{Jump, Call, Tail, Trace}
use Rattle.module_parts.specs.declared.unit.Unit.{Unit}
use Rattle.module_parts.specs.declared.unit.Aim.{Aim}
use Rattle.module_image.specs.Aims.{plain_target, jump_aim, jump_aims, key_aim, key_aims, function_aim, PlainReachBelow, ReachBelow, AllReach, IsFirstBad}
use Rattle.module_image.specs.Layout.{Layout, unit_at, IsStart, IsSwept}
use Rattle.module_image.specs.Leads.{jump_target, key_target, LeadsWell, IsAstray}
use Rattle.module_image.proofs.Starts.{noted_unit}

-- where nothing leads astray
pub unless_astray : {A : Type 0} (r : Option A) (P : Type 0) (Q : A → Type 0) → MatchOption r P Q → ((x : A) → r ≡ Some x → ⊥) → P
unless_astray None P Q either not_some = either
unless_astray (Some x) P Q either not_some = absurd (not_some x refl)

-- each of the first n items leads to a start, if it leads anywhere
abbrev pub LeadBelow : {X : Type 0} → Layout → (X → Option ℕ) → List X → ℕ → Type 0
LeadBelow {X} t to xs n = (k : ℕ) (x : X) → k < n → slice_get xs k ≡ Some x → LeadsWell t (to x)

pub lead_more : {X : Type 0} (t : Layout) (to : X → Option ℕ) (xs : List X) (n : ℕ) (d : X) (o : Option ℕ) → LeadBelow t to xs n → n < length xs → o ≡ to (get_or xs n d) → LeadsWell t o → LeadBelow t to xs (n + 1)
lead_more {X = X} t to xs n d o before lt told well k x below here = elim (cases_lt k n) [
  | inl first ↦ before k x first here
  | inr not_first ↦ (
      let same : n ≡ k = omega (arith, below, not_first) in
      let is : get_or xs n d ≡ x = same_Some (get_or xs n d) x (sym (slice_get-get_or xs n d lt) ∙ ap (slice_get xs) same ∙ here) in
      subst (LeadsWell t) (told ∙ ap to is) well)
]

-- the ways of a list's items
abbrev aim_then : ℕ → Option ℕ → List Aim → List Aim
aim_then from None aims = aims
aim_then from (Some to) aims = record { from = from; to = to } ∷ aims

abbrev aims_of : {X : Type 0} → (X → ℕ) → (X → Option ℕ) → List X → List Aim
aims_of from to [] = []
aims_of from to (x ∷ xs) = aim_then (from x) (to x) (aims_of from to xs)

-- where each item leads to a start, each way does
then_reach : (t : Layout) (from : ℕ) (to : Option ℕ) (aims : List Aim) → LeadsWell t to → AllReach t aims → AllReach t (aim_then from to aims)
then_reach t from None aims well all k aim here = all k aim here
then_reach t from (Some to) aims well all zero aim here = (let e : to ≡ aim.to = cc in subst (IsStart t) e well)
then_reach t from (Some to) aims well all (suc k) aim here = all k aim here

all_reach : {X : Type 0} (t : Layout) (from : X → ℕ) (to : X → Option ℕ) (xs : List X) → LeadBelow t to xs (length xs) → AllReach t (aims_of from to xs)
all_reach t from to [] each k aim here = cc
all_reach t from to (x ∷ xs) each k aim here = then_reach t (from x) (to x) (aims_of from to xs) (each 0 x (omega arith) refl) (all_reach t from to xs (λ k y lt. each (suc k) y (omega (arith, lt)))) k aim here

-- the first item that leads astray is the first way that does
reach_then : (t : Layout) (from to : ℕ) (aims : List Aim) (n : ℕ) → IsStart t to → ReachBelow t aims n → ReachBelow t (aim_then from (Some to) aims) (suc n)
reach_then t from to aims n well before zero aim lt here = (let e : to ≡ aim.to = cc in subst (IsStart t) e well)
reach_then t from to aims n well before (suc k) aim lt here = before k aim (omega (arith, lt)) here

then_first : (t : Layout) (from : ℕ) (to : Option ℕ) (aims : List Aim) (aim : Aim) → LeadsWell t to → IsFirstBad t aims aim → IsFirstBad t (aim_then from to aims) aim
then_first t from None aims aim well first = first
then_first t from (Some to) aims aim well first = record {
  place = suc first.place;
  here = first.here;
  bad = first.bad;
  before = reach_then t from to aims first.place well first.before;
}

then_bad : (t : Layout) (from : ℕ) (to : Option ℕ) (aims : List Aim) (aim : Aim) → IsAstray t from to aim → IsFirstBad t (aim_then from to aims) aim
then_bad t from None aims aim astray = (let leads = astray.leads in cc)
then_bad t from (Some to) aims aim astray =
    let leads : to ≡ aim.to = same_Some to aim.to astray.leads in
    let by_from : ℕ → Aim = λ a. record { from = a; to = to } in
    let by_to : ℕ → Aim = λ a. record { from = aim.from; to = a } in
    record { place = 0; here = ap Some (ap by_from (sym astray.same) ∙ ap by_to leads); bad = astray.bad; before = λ k aim lt here. absurd (omega (arith, lt)) }

first_bad_from : {X : Type 0} (t : Layout) (from : X → ℕ) (to : X → Option ℕ) (xs : List X) (n : ℕ) (x : X) (aim : Aim) → LeadBelow t to xs n → slice_get xs n ≡ Some x → IsAstray t (from x) (to x) aim → IsFirstBad t (aims_of from to xs) aim
first_bad_from t from to [] n x aim each here astray = cc
first_bad_from {X = X} t from to (y ∷ ys) zero x aim each here astray =
    let e : x ≡ y = (let o : Some y ≡ Some x = here in sym (same_Some y x o)) in
    then_bad t (from y) (to y) (aims_of from to ys) aim (subst (λ (z : X). IsAstray t (from z) (to z) aim) e astray)
first_bad_from t from to (y ∷ ys) (suc n) x aim each here astray =
    then_first t (from y) (to y) (aims_of from to ys) aim (each 0 y (omega arith) refl) (first_bad_from t from to ys n x aim (λ k z lt. each (suc k) z (omega (arith, lt))) here astray)

-- the ways of jump sites, of keys and of functions
jump_is : (at : ℕ) (kind : SiteKind) (aims : List Aim) → aim_then at (jump_target kind) aims ≡ jump_aim at kind aims
jump_is at (Jump target key likely) aims = refl
jump_is at (Call key) aims = refl
jump_is at (Tail key) aims = refl
jump_is at Trace aims = refl

jumps_are : (sites : List Site) → aims_of (λ (s : Site). s.at) (λ (s : Site). jump_target s.kind) sites ≡ jump_aims sites
jumps_are [] = refl
jumps_are (s ∷ ss) = jump_is s.at s.kind (aims_of (λ (s : Site). s.at) (λ (s : Site). jump_target s.kind) ss) ∙ ap (jump_aim s.at s.kind) (jumps_are ss)

call_is : (at start : ℕ) (none : Bool) (aims : List Aim) → aim_then at (if none then None else Some start) aims ≡ (if none then aims else record { from = at; to = start } ∷ aims)
call_is at start true aims = refl
call_is at start false aims = refl

key_is : (class : KeyClass) (at start : ℕ) (aims : List Aim) → aim_then at (key_target class start) aims ≡ key_aim class at start aims
key_is JumpKey at start aims = refl
key_is CallKey at start aims = call_is at start (start == 0) aims

keys_are : (keys : List Key) → aims_of (λ (k : Key). k.at) (λ (k : Key). key_target k.class k.start) keys ≡ key_aims keys
keys_are [] = refl
keys_are (k ∷ ks) = key_is k.class k.at k.start (aims_of (λ (k : Key). k.at) (λ (k : Key). key_target k.class k.start) ks) ∙ ap (key_aim k.class k.at k.start) (keys_are ks)

functions_are : (functions : List ℕ) → aims_of (λ (f : ℕ). f) (λ (f : ℕ). Some f) functions ≡ map function_aim functions
functions_are [] = refl
functions_are (f ∷ fs) = ap (λ (aims : List Aim). function_aim f ∷ aims) (functions_are fs)

-- what the loops over them end with
pub jumps_reach : (t : Layout) (sites : List Site) (n : ℕ) → length sites ≤ n → LeadBelow t (λ (s : Site). jump_target s.kind) sites n → AllReach t (jump_aims sites)
jumps_reach t sites n done each = subst (AllReach t) (jumps_are sites) (all_reach t (λ (s : Site). s.at) (λ (s : Site). jump_target s.kind) sites (λ k x lt. each k x (omega (arith, lt, done))))

pub jump_first : (t : Layout) (sites : List Site) (n : ℕ) (d : Site) (o : Option ℕ) (aim : Aim) → n < length sites → LeadBelow t (λ (s : Site). jump_target s.kind) sites n → o ≡ jump_target (get_or sites n d).kind → IsAstray t (get_or sites n d).at o aim → IsFirstBad t (jump_aims sites) aim
jump_first t sites n d o aim lt each told astray = subst (λ (aims : List Aim). IsFirstBad t aims aim) (jumps_are sites) (first_bad_from t (λ (s : Site). s.at) (λ (s : Site). jump_target s.kind) sites n (get_or sites n d) aim each (slice_get-get_or sites n d lt) (subst (λ (to : Option ℕ). IsAstray t (get_or sites n d).at to aim) told astray))

pub keys_reach : (t : Layout) (keys : List Key) (n : ℕ) → length keys ≤ n → LeadBelow t (λ (k : Key). key_target k.class k.start) keys n → AllReach t (key_aims keys)
keys_reach t keys n done each = subst (AllReach t) (keys_are keys) (all_reach t (λ (k : Key). k.at) (λ (k : Key). key_target k.class k.start) keys (λ k x lt. each k x (omega (arith, lt, done))))

pub key_first : (t : Layout) (keys : List Key) (n : ℕ) (d : Key) (o : Option ℕ) (aim : Aim) → n < length keys → LeadBelow t (λ (k : Key). key_target k.class k.start) keys n → o ≡ key_target (get_or keys n d).class (get_or keys n d).start → IsAstray t (get_or keys n d).at o aim → IsFirstBad t (key_aims keys) aim
key_first t keys n d o aim lt each told astray = subst (λ (aims : List Aim). IsFirstBad t aims aim) (keys_are keys) (first_bad_from t (λ (k : Key). k.at) (λ (k : Key). key_target k.class k.start) keys n (get_or keys n d) aim each (slice_get-get_or keys n d lt) (subst (λ (to : Option ℕ). IsAstray t (get_or keys n d).at to aim) told astray))

pub functions_reach : (t : Layout) (functions : List ℕ) (n : ℕ) → length functions ≤ n → LeadBelow t (λ (f : ℕ). Some f) functions n → AllReach t (map function_aim functions)
functions_reach t functions n done each = subst (AllReach t) (functions_are functions) (all_reach t (λ (f : ℕ). f) (λ (f : ℕ). Some f) functions (λ k x lt. each k x (omega (arith, lt, done))))

pub function_first : (t : Layout) (functions : List ℕ) (n d : ℕ) (aim : Aim) → n < length functions → LeadBelow t (λ (f : ℕ). Some f) functions n → IsAstray t (get_or functions n d) (Some (get_or functions n d)) aim → IsFirstBad t (map function_aim functions) aim
function_first t functions n d aim lt each astray = subst (λ (aims : List Aim). IsFirstBad t aims aim) (functions_are functions) (first_bad_from t (λ (f : ℕ). f) (λ (f : ℕ). Some f) functions n (get_or functions n d) aim each (slice_get-get_or functions n d lt) astray)

-- plain jumps and calls, by offset
pub plain_more : (t : Layout) (units : List Unit) (n : ℕ) (d : Unit) → IsSwept t units → n < length units → PlainReachBelow t (t.base + n) → (o : Option ℕ) → o ≡ plain_target (get_or units n d) → LeadsWell t o → PlainReachBelow t (t.base + (n + 1))
plain_more t units n d swept lt before o told well aim below is = elim (cases_lt aim.from (t.base + n)) [
  | inl first ↦ before aim first is
  | inr not_first ↦ (
      let there = noted_unit t units aim.from swept is.start in
      let place : n ≡ aim.from - t.base = omega (arith, below, not_first) in
      let unit : get_or units n d ≡ unit_at t aim.from = same_Some (get_or units n d) (unit_at t aim.from) (sym (slice_get-get_or units n d lt) ∙ ap (slice_get units) place ∙ there.2) in
      let leads : plain_target (get_or units n d) ≡ Some aim.to = ap plain_target unit ∙ is.leads in
      subst (LeadsWell t) (told ∙ leads) well)
]
