-- A stable sort by address gives the sites as insertion does: rising lists whose ties stand alike are one.
use Rattle.std.proofs.Common.{◌≡◌, ◌∙◌, ℕ, suc, ◌<◌, ◌≤◌, Bool, true, false, not, ◌&&◌, cond, nat_lt, nat_le, lt-ltb, le-ltb, leb-true, leb-false, List, [], ◌∷◌, length, get_or, filter, refl, sym, ap, ap₂, arith, true≢false, IsSortedByKey, nat_cmp, is_lt, Less, Equal, Greater, Bor}
use Rattle.std.specs.Prelude.{⊤}
use Rattle.std.specs.Fn.{Called, ComputesKey, Mut}
use Rattle.std.specs.List.Sorted.{IsStableByKey, IsNonDecreasingBy}
use Rattle.std.proofs.lemmas.List.Sorted.{IsNonDecreasingBy-from_sort_by_key}
use Rattle.std.proofs.lemmas.Fn.{always_returns_same}
use Rattle.module_parts.specs.declared.site.Site.{Site}
use Rattle.module_image.specs.Sites.{insert_site, ascending}

-- two numbers of which none is below the other, as a stable sort tests it
abbrev pub tie : ℕ → ℕ → Bool
tie a b = not (is_lt (nat_cmp a b)) && not (is_lt (nat_cmp b a))

by_tests : (less same : Bool) → is_lt (cond less Less (cond same Equal Greater)) ≡ less
by_tests true same = refl
by_tests false true = refl
by_tests false false = refl

is_less : (a b : ℕ) → is_lt (nat_cmp a b) ≡ nat_lt a b
is_less a b = by_tests _ _

tested : (a b : ℕ) (p q : Bool) → nat_lt a b ≡ p → nat_lt b a ≡ q → tie a b ≡ not p && not q
tested a b p q e f = ap₂ (λ (x y : Bool). not x && not y) (is_less a b ∙ e) (is_less b a ∙ f)

tie_same : (a b : ℕ) → a ≡ b → tie a b ≡ true
tie_same a b e = tested a b false false (le-ltb a b (omega arith)) (le-ltb b a (omega arith))

tie_below : (a b : ℕ) → a < b → tie a b ≡ false
tie_below a b below = tested a b true false (lt-ltb a b below) (le-ltb b a (omega arith))

tie_above : (a b : ℕ) → b < a → tie a b ≡ false
tie_above a b above = tested a b false true (le-ltb a b (omega arith)) (lt-ltb b a above)

-- a site ties with the address of another
abbrev pub ties_with : Site → Site → Bool
ties_with z s = tie z.at s.at

-- no site of a list is before an address, and a list rises
abbrev Least : ℕ → List Site → Type 0
Least a [] = ⊤
Least a (s ∷ ss) = (a ≤ s.at) × Least a ss

abbrev Rises : List Site → Type 0
Rises [] = ⊤
Rises (s ∷ ss) = Least s.at ss × Rises ss

least_lower : (a b : ℕ) (ss : List Site) → a ≤ b → Least b ss → Least a ss
least_lower a b [] le h = tt
least_lower a b (s ∷ ss) le h = let first = h.0 in (omega arith, least_lower a b ss le h.1)

-- ---- rising lists whose ties stand alike are one

-- nothing that is above a site ties with it
none_ties : (z : Site) (a : ℕ) (ss : List Site) → z.at < a → Least a ss → filter (ties_with z) ss ≡ []
none_ties z a [] below h = refl
none_ties z a (s ∷ ss) below h =
    let first = h.0 in
    ap (λ (t : Bool). cond t (s ∷ filter (ties_with z) ss) (filter (ties_with z) ss)) (tie_below z.at s.at (omega arith))
    ∙ none_ties z a ss below h.1

abbrev head_of : Site → List Site → Site
head_of d [] = d
head_of d (s ∷ ss) = s

abbrev rest_of : List Site → List Site
rest_of [] = []
rest_of (s ∷ ss) = ss

nil-cons : (s : Site) (ss : List Site) → [] ≡ s ∷ ss → ⊥
nil-cons s ss e = absurd (cc)

-- a site is among those that tie with it
own_tie : (x : Site) (xs : List Site) → filter (ties_with x) (x ∷ xs) ≡ x ∷ filter (ties_with x) xs
own_tie x xs =
    ap (λ (t : Bool). cond t (x ∷ filter (ties_with x) xs) (filter (ties_with x) xs)) (tie_same x.at x.at refl)

-- what comes first in one list isn't before all of the other
not_before : (x y : Site) (xs ys : List Site) → Least y.at ys → filter (ties_with x) (x ∷ xs) ≡ filter (ties_with x) (y ∷ ys) → x.at < y.at → ⊥
not_before x y xs ys h same below =
    nil-cons x (filter (ties_with x) xs)
    (sym (none_ties x y.at (y ∷ ys) below (omega arith, h)) ∙ sym same ∙ own_tie x xs)

same_rest : (t : Bool) (x : Site) (xs ys : List Site) → cond t (x ∷ xs) xs ≡ cond t (x ∷ ys) ys → xs ≡ ys
same_rest true x xs ys e = ap rest_of e
same_rest false x xs ys e = e

same_head : (x y : Site) (xs ys : List Site) → x.at ≡ y.at → filter (ties_with x) (x ∷ xs) ≡ filter (ties_with x) (y ∷ ys) → x ≡ y
same_head x y xs ys e same =
    let there : filter (ties_with x) (y ∷ ys) ≡ y ∷ filter (ties_with x) ys = ap (λ (t : Bool). cond t (y ∷ filter (ties_with x) ys) (filter (ties_with x) ys)) (tie_same x.at y.at e) in
    ap (head_of x) (sym (own_tie x xs) ∙ same ∙ there)

pub one_list : (xs ys : List Site) → Rises xs → Rises ys → ((z : Site) → filter (ties_with z) xs ≡ filter (ties_with z) ys) → xs ≡ ys
one_list [] [] p q same = refl
one_list [] (y ∷ ys) p q same = absurd (nil-cons y _ (same y ∙ own_tie y ys))
one_list (x ∷ xs) [] p q same = absurd (nil-cons x _ (sym (same x) ∙ own_tie x xs))
one_list (x ∷ xs) (y ∷ ys) p q same =
    let above = not_before x y xs ys q.0 (same x) in
    let below = not_before y x ys xs p.0 (sym (same y)) in
    let equal : x.at ≡ y.at = omega arith in
    let first : x ≡ y = same_head x y xs ys equal (same x) in
    let rest : xs ≡ ys = one_list xs ys p.1 q.1 (λ z.
    same_rest (ties_with z x) x (filter (ties_with z) xs) (filter (ties_with z) ys)
    (same z ∙ ap (λ (s : Site). filter (ties_with z) (s ∷ ys)) (sym first))) in
    ap (λ (s : Site). s ∷ xs) first ∙ ap (λ (ss : List Site). y ∷ ss) rest

-- ---- insertion

least_put : (a : ℕ) (s : Site) (ss : List Site) → a ≤ s.at → Least a ss → Least a (insert_site s ss)
least_put a s [] le h = (le, tt)
least_put a s (x ∷ xs) le h = by (least_put a s xs le h.1) (nat_le s.at x.at)
  where
    by : Least a (insert_site s xs) → (t : Bool) → Least a (cond t (s ∷ x ∷ xs) (x ∷ insert_site s xs))
    by rest true = (le, h)
    by rest false = (h.0, rest)

rises_put : (s : Site) (ss : List Site) → Rises ss → Rises (insert_site s ss)
rises_put s [] h = (tt, tt)
rises_put s (x ∷ xs) h = by (rises_put s xs h.1) (nat_le s.at x.at) refl
  where
    by : Rises (insert_site s xs) → (t : Bool) → nat_le s.at x.at ≡ t → Rises (cond t (s ∷ x ∷ xs) (x ∷ insert_site s xs))
    by rest true e = let le = leb-true s.at x.at e in ((le, least_lower s.at x.at xs le h.0), h)
    by rest false e =
        let above = leb-false s.at x.at e in (least_put x.at s xs (omega arith) h.0, rest)

pub rises_ascending : (ss : List Site) → Rises (ascending ss)
rises_ascending [] = tt
rises_ascending (s ∷ ss) = rises_put s (ascending ss) (rises_ascending ss)

-- two that don't both tie change places
swapped : (t u : Bool) (s x : Site) (ss : List Site) → (t ≡ true → u ≡ true → ⊥) → cond u (x ∷ cond t (s ∷ ss) ss) (cond t (s ∷ ss) ss) ≡ cond t (s ∷ cond u (x ∷ ss) ss) (cond u (x ∷ ss) ss)
swapped true true s x ss h = absurd (h refl refl)
swapped true false s x ss h = refl
swapped false true s x ss h = refl
swapped false false s x ss h = refl

tie_is : (a b : ℕ) → tie a b ≡ true → a ≡ b
tie_is a b e =
    let below : a < b → ⊥ = λ h. true≢false (sym e ∙ tie_below a b h) in
    let above : b < a → ⊥ = λ h. true≢false (sym e ∙ tie_above a b h) in
    omega arith

ties_put : (z s : Site) (ss : List Site) → filter (ties_with z) (insert_site s ss) ≡ filter (ties_with z) (s ∷ ss)
ties_put z s [] = refl
ties_put z s (x ∷ xs) = by (ties_put z s xs) (nat_le s.at x.at) refl
  where
    apart : nat_le s.at x.at ≡ false → ties_with z s ≡ true → ties_with z x ≡ true → ⊥
    apart e p q =
        let above = leb-false s.at x.at e in
        let first = tie_is z.at s.at p in
        let second = tie_is z.at x.at q in
        omega arith

    by : filter (ties_with z) (insert_site s xs) ≡ filter (ties_with z) (s ∷ xs) → (t : Bool) → nat_le s.at x.at ≡ t → filter (ties_with z) (cond t (s ∷ x ∷ xs) (x ∷ insert_site s xs)) ≡ filter (ties_with z) (s ∷ x ∷ xs)
    by rest true e = refl
    by rest false e =
        ap (λ (ss : List Site). cond (ties_with z x) (x ∷ ss) ss) rest
        ∙ swapped (ties_with z s) (ties_with z x) s x (filter (ties_with z) xs) (apart e)

pub ties_ascending : (z : Site) (ss : List Site) → filter (ties_with z) (ascending ss) ≡ filter (ties_with z) ss
ties_ascending z [] = refl
ties_ascending z (s ∷ ss) =
    ties_put z s (ascending ss)
    ∙ ap (λ (xs : List Site). cond (ties_with z s) (s ∷ xs) xs) (ties_ascending z ss)

-- ---- std's sort

least_by_index : (a : ℕ) (ss : List Site) (d : Site) → ((k : ℕ) → k < length ss → a ≤ (get_or ss k d).at) → Least a ss
least_by_index a [] d h = tt
least_by_index a (s ∷ ss) d h = (h 0 (omega arith), least_by_index a ss d (λ k p. h (suc k) (omega arith)))

rises_by_index : (ss : List Site) → IsNonDecreasingBy (λ (s : Site). s.at) ss → Rises ss
rises_by_index [] h = tt
rises_by_index (s ∷ ss) h = (
  least_by_index s.at ss s (λ k p. h 0 (suc k) s (omega arith) (omega arith)),
  rises_by_index ss (λ i j d p q. h (suc i) (suc j) d (omega arith) (omega arith)),
)

-- a stable sort by address is `ascending`
pub ascending_from_sort : {F : Type 0} {g : Mut F (Bor Site × Unit {0}) ℕ} {f : F} (xs ys : List Site) → ((key : Site → ℕ) → ComputesKey g key f → IsSortedByKey key nat_cmp ys) → ((key : Site → ℕ) → ComputesKey g key f → IsStableByKey key nat_cmp xs ys) → ((a : Bor Site × Unit {0}) (r : ℕ) (f' : F) → Called g f a r f' → (r ≡ a.0.now.at) × (f' ≡ f)) → ys ≡ ascending xs
ascending_from_sort {g = g} {f = f} xs ys sorted stable calls =
    one_list ys (ascending xs)
    (rises_by_index ys (IsNonDecreasingBy-from_sort_by_key (λ (s : Site). s.at) ys sorted calls)) (rises_ascending xs)
    (λ z. stable (λ (s : Site). s.at) (always_returns_same g (λ a r. r ≡ a.0.now.at) f calls) z ∙ sym (ties_ascending z xs))
