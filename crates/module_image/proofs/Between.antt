-- No site begins between two addresses: by the sites, and by the units.
use Rattle.std.proofs.Common.{◌≡◌, ◌<◌, ◌≤◌, ◌+◌, ◌-◌, ◌∙◌, ◌||◌, nat_le, ℕ, zero, suc, Bool, true, false, List, [], ◌∷◌, length, take, drop, Option, Some, None, refl, ap, sym, arith, inl, inr}
use Rattle.std.specs.List.{slice_get, slice_range, list_all}
use Rattle.std.proofs.lemmas.Bool.{and_parts, cases_lt, le-leb, leb-true, or_cases}
use Rattle.std.proofs.lemmas.Option.{same_Some}
use Rattle.module_parts.specs.declared.site.Site.{Site}
use Rattle.module_parts.specs.declared.unit.Unit.{Unit}
use Rattle.module_image.specs.Layout.{Layout, is_patched_at, is_clear, no_site_between, site_at}
use Rattle.module_image.specs.Sweeping.{HasSites, is_nothing, unit_of_site}
use Rattle.module_image.proofs.Marking.{patched_parts, patched_from}
use Rattle.module_image.proofs.Positions.{found_none, found_some, slice_get-take}

-- each item of a list passes
pub all_at : {X : Type 0} (p : X → Bool) (xs : List X) (i : ℕ) (x : X) → list_all p xs ≡ true → slice_get xs i ≡ Some x → p x ≡ true
all_at p [] i x all here = cc
all_at p (y ∷ ys) zero x all here = (let same : y ≡ x = cc in ap p (sym same) ∙ (and_parts (p y) (list_all p ys) all).0)
all_at p (y ∷ ys) (suc i) x all here = all_at p ys i x (and_parts (p y) (list_all p ys) all).1 here

pub all_from : {X : Type 0} (p : X → Bool) (xs : List X) → ((i : ℕ) (x : X) → slice_get xs i ≡ Some x → p x ≡ true) → list_all p xs ≡ true
all_from p [] each = refl
all_from p (y ∷ ys) each = rw (each 0 y refl, all_from p ys (λ i. each (suc i))) refl

-- a part of a list
slice_get-drop : {X : Type 0} (xs : List X) (n i : ℕ) → slice_get (drop n xs) i ≡ slice_get xs (n + i)
slice_get-drop xs zero i = (let same : i ≡ 0 + i = omega arith in ap (slice_get xs) same)
slice_get-drop [] (suc n) i = refl
slice_get-drop (x ∷ xs) (suc n) i = (let same : suc (n + i) ≡ suc n + i = omega arith in slice_get-drop xs n i ∙ ap (slice_get (x ∷ xs)) same)

pub slice_get-slice_range : {X : Type 0} (xs : List X) (a b i : ℕ) → i < b - a → slice_get (slice_range xs a b) i ≡ slice_get xs (a + i)
slice_get-slice_range xs a b i lt = slice_get-take (drop a xs) (b - a) i lt ∙ slice_get-drop xs a i

slice_get-take-past : {X : Type 0} (xs : List X) (n i : ℕ) (x : X) → slice_get (take n xs) i ≡ Some x → i < n
slice_get-take-past xs zero i x here = cc
slice_get-take-past [] (suc n) i x here = cc
slice_get-take-past (y ∷ xs) (suc n) zero x here = omega arith
slice_get-take-past (y ∷ xs) (suc n) (suc i) x here = (let below = slice_get-take-past xs n i x here in omega (arith, below))

-- two tests that pass together are one
same_tests : (a b : Bool) → (a ≡ true → b ≡ true) → (b ≡ true → a ≡ true) → a ≡ b
same_tests true b there back = sym (there refl)
same_tests false true there back = back refl
same_tests false false there back = refl

-- a site that doesn't begin between two addresses is clear of them
apart_clear : (from to : ℕ) (s : Site) (f : Bool) → s.foreign ≡ f → (f ≡ false → from < s.at → s.at < to → ⊥) → is_clear from to s ≡ true
apart_clear from to s true foreign outside = rw foreign refl
apart_clear from to s false ours outside = rw ours (elim (cases_lt from s.at) [
  | inl after ↦ elim (cases_lt s.at to) [
    | inl before ↦ absurd (outside refl after before)
    | inr past_end ↦ (rw (le-leb to s.at past_end) (grind arith))
  ]
  | inr before ↦ rw (le-leb s.at from before) refl
])

pub clear_outside : (from to : ℕ) (s : Site) → s.foreign ≡ false → is_clear from to s ≡ true → from < s.at → s.at < to → ⊥
clear_outside from to s ours clear after before =
    let outside : (nat_le s.at from || nat_le to s.at) ≡ true = rw ours at clear in
    elim (or_cases (nat_le s.at from) (nat_le to s.at) outside) [
      | inl low ↦ (let le = leb-true s.at from low in omega (arith, le, after))
      | inr high ↦ (let le = leb-true to s.at high in omega (arith, le, before))
    ]

-- a site's unit that is nothing is no site's
none_is : (o : Option ℕ) → is_nothing (unit_of_site o) ≡ true → o ≡ None
none_is None none = refl
none_is (Some n) none = cc

nothing_if_clear : (t : Layout) (at : ℕ) (o : Option ℕ) → site_at t.sites at ≡ o → ((i : ℕ) (s : Site) → slice_get t.sites i ≡ Some s → s.foreign ≡ false → s.at ≡ at → ⊥) → is_nothing (unit_of_site o) ≡ true
nothing_if_clear t at None is clear = refl
nothing_if_clear t at (Some i) is clear =
    let found = found_some (is_patched_at at) t.sites i is in
    let parts = patched_parts at found.item found.passes in
    absurd (clear i found.item found.here parts.0 parts.1)

-- the units between two offsets tell whether a site begins there
pub between_units : (t : Layout) (units : List Unit) (from to : ℕ) → HasSites t units from → from < to → to ≤ length t.text → list_all is_nothing (slice_range units (from + 1) to) ≡ no_site_between t.sites (t.base + from) (t.base + to)
between_units t units from to are order within = same_tests (list_all is_nothing (slice_range units (from + 1) to)) (no_site_between t.sites (t.base + from) (t.base + to)) there back
  where
    there : list_all is_nothing (slice_range units (from + 1) to) ≡ true → no_site_between t.sites (t.base + from) (t.base + to) ≡ true
    there all = all_from (is_clear (t.base + from) (t.base + to)) t.sites (λ i s here. apart_clear (t.base + from) (t.base + to) s s.foreign refl (λ ours after before.
        let k = s.at - t.base - (from + 1) in
        let place : t.base + (from + 1 + k) ≡ s.at = omega (arith, after) in
        let short : k < to - (from + 1) = omega (arith, after, before) in
        let inside : from + 1 + k < length t.text = omega (arith, short, within) in
        let unit : slice_get (slice_range units (from + 1) to) k ≡ Some (unit_of_site (site_at t.sites s.at)) = slice_get-slice_range units (from + 1) to k short ∙ are.each (from + 1 + k) (omega arith) inside ∙ ap (λ at. Some (unit_of_site (site_at t.sites at))) place in
        let none = none_is (site_at t.sites s.at) (all_at is_nothing (slice_range units (from + 1) to) k (unit_of_site (site_at t.sites s.at)) all unit) in
        let fails = found_none (is_patched_at s.at) t.sites i s none here in
        let passes = patched_from s.at s ours refl in
        cc))

    back : no_site_between t.sites (t.base + from) (t.base + to) ≡ true → list_all is_nothing (slice_range units (from + 1) to) ≡ true
    back all = all_from is_nothing (slice_range units (from + 1) to) (λ k unit here.
        let short : k < to - (from + 1) = slice_get-take-past (drop (from + 1) units) (to - (from + 1)) k unit here in
        let inside : from + 1 + k < length t.text = omega (arith, short, within) in
        let at = t.base + (from + 1 + k) in
        let is : unit_of_site (site_at t.sites at) ≡ unit = (let e : Some (unit_of_site (site_at t.sites at)) ≡ Some unit = sym (are.each (from + 1 + k) (omega arith) inside) ∙ sym (slice_get-slice_range units (from + 1) to k short) ∙ here in same_Some (unit_of_site (site_at t.sites at)) unit e) in
        ap is_nothing (sym is)
        ∙ nothing_if_clear t at (site_at t.sites at) refl (λ i s there ours same. clear_outside (t.base + from) (t.base + to) s ours (all_at (is_clear (t.base + from) (t.base + to)) t.sites i s all there) (omega (arith, same)) (omega (arith, same, short))))
