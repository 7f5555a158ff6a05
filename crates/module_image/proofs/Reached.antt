-- Where the jumps, keys and functions of a module lead, one by one.
use Rattle.std.proofs.Common.{◌≡◌, ◌∙◌, ◌==◌, ◌⊎◌, inl, inr, ℕ, zero, suc, Bool, true, false, cond, if◌then◌else◌, List, [], ◌∷◌, slice_get, Some, refl, ap, subst}
use Rattle.std.specs.Str.{bytes_eq}
use Rattle.std.proofs.lemmas.Bool.{eqb-true}
use Rattle.std.proofs.lemmas.Option.{none-some, same_Some}
use Rattle.module_parts.specs.declared.key.Key.{Key}
use Rattle.module_parts.specs.declared.key.KeyClass.{KeyClass}
use Rattle.module_parts.specs.declared.key.KeyClass.TheVariants.{Jump as JumpKey, Call as CallKey}
use Rattle.module_parts.specs.declared.site.Site.{Site}
use Rattle.module_parts.specs.declared.site.SiteKind.{SiteKind}
use Rattle.module_parts.specs.declared.site.SiteKind.TheVariants.{Jump, Call, Tail, Trace}
use Rattle.module_parts.specs.declared.unit.Aim.{Aim}
use Rattle.module_image.specs.Aims.{AllReach, jump_aim, jump_aims, key_aim, key_aims}
use Rattle.module_image.specs.Layout.{Layout, IsStart}
use Rattle.module_names.specs.Names.{Named, value_of}
use Rattle.module_image.specs.Refusals.{function_aims}

-- what holds of all ways holds of those after the first site or key
later_jumps : (t : Layout) (at : ℕ) (kind : SiteKind) (aims : List Aim) → AllReach t (jump_aim at kind aims) → AllReach t aims
later_jumps t at (Jump target key likely) aims all = λ k aim here. all (suc k) aim here
later_jumps t at (Call key) aims all = all
later_jumps t at (Tail key) aims all = all
later_jumps t at Trace aims all = all

later_keys : (t : Layout) (class : KeyClass) (at start : ℕ) (aims : List Aim) → AllReach t (key_aim class at start aims) → AllReach t aims
later_keys t JumpKey at start aims all = all
later_keys t CallKey at start aims all = by (start == 0) all
  where
    by : (test : Bool) → AllReach t (cond test aims (record { from = at; to = start } ∷ aims)) → AllReach t aims
    by true all = all
    by false all = λ k aim here. all (suc k) aim here

-- a jump site's target is a start
pub jump_reaches : (t : Layout) (ss : List Site) (i : ℕ) (s : Site) (target key : ℕ) (likely : Bool) → AllReach t (jump_aims ss) → slice_get ss i ≡ Some s → s.kind ≡ Jump target key likely → IsStart t target
jump_reaches t [] i s target key likely all here kind = absurd (none-some s here)
jump_reaches t (x ∷ xs) zero s target key likely all here kind =
    let same : x.kind ≡ Jump target key likely = ap (λ (u : Site). u.kind) (same_Some x s here) ∙ kind in
    all 0 (record { from = x.at; to = target }) (ap (λ (k : SiteKind). slice_get (jump_aim x.at k (jump_aims xs)) 0) same)
jump_reaches t (x ∷ xs) (suc i) s target key likely all here kind =
    jump_reaches t xs i s target key likely (later_jumps t x.at x.kind (jump_aims xs) all) here kind

-- a call key holds no function, or a start
key_first : (t : Layout) (at start : ℕ) (aims : List Aim) → AllReach t (key_aim CallKey at start aims) → (start ≡ 0) ⊎ IsStart t start
key_first t at start aims all = by (start == 0) refl all
  where
    by : (test : Bool) → (start == 0) ≡ test → AllReach t (cond test aims (record { from = at; to = start } ∷ aims)) → (start ≡ 0) ⊎ IsStart t start
    by true is all = inl (eqb-true start 0 is)
    by false is all = inr (all 0 (record { from = at; to = start }) refl)

pub key_reaches : (t : Layout) (ks : List Key) (i : ℕ) (k : Key) → AllReach t (key_aims ks) → slice_get ks i ≡ Some k → k.class ≡ CallKey → (k.start ≡ 0) ⊎ IsStart t k.start
key_reaches t [] i k all here class = absurd (none-some k here)
key_reaches t (x ∷ xs) zero k all here class =
    let same : x ≡ k = same_Some x k here in
    let of_call : x.class ≡ CallKey = ap (λ (y : Key). y.class) same ∙ class in
    subst (λ (y : Key). (y.start ≡ 0) ⊎ IsStart t y.start) same
    (key_first t x.at x.start (key_aims xs) (subst (λ (c : KeyClass). AllReach t (key_aim c x.at x.start (key_aims xs))) of_call all))
key_reaches t (x ∷ xs) (suc i) k all here class = key_reaches t xs i k (later_keys t x.class x.at x.start (key_aims xs) all) here class

-- what a name of a function stands for is a start
pub function_reaches : (t : Layout) (ns : List Named) (name : List ℕ) (at : ℕ) → AllReach t (function_aims ns) → value_of name ns ≡ Some at → IsStart t at
function_reaches t [] name at all is = absurd (none-some at is)
function_reaches t (n ∷ ns) name at all is = by (bytes_eq name n.0) (λ later. function_reaches t ns name at (λ k aim here. all (suc k) aim here) later) is
  where
    by : (test : Bool) → (value_of name ns ≡ Some at → IsStart t at) → (if test then Some n.1 else value_of name ns) ≡ Some at → IsStart t at
    by true rest is = subst (IsStart t) (same_Some n.1 at is) (all 0 (record { from = n.1; to = n.1 }) refl)
    by false rest is = rest is
