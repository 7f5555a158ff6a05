-- The sites of a text among its units, put there one by one.
use Rattle.std.proofs.Common.{◌≡◌, ◌≢◌, ◌<◌, ◌≤◌, ◌+◌, ◌-◌, ◌∙◌, ◌++◌, ◌==◌, not, if◌then◌else◌, ℕ, zero, suc, Bool, true, false, List, length, get_or, replicate, set, take, Option, Some, None, refl, ap, sym, subst, arith, inl, inr}
use Rattle.std.specs.List.{slice_get}
use Rattle.std.proofs.lemmas.Bool.{and_parts, not-true, eqb-true, ne_eqb, eq-eqb, cases_eq, and_right}
use Rattle.std.proofs.lemmas.List.{length-replicate, length-set}
use Rattle.std.proofs.lemmas.Option.{slice_get_within, slice_get-get_or}
use Rattle.module_parts.specs.declared.site.Site.{Site}
use Rattle.module_parts.specs.declared.unit.Unit.{Unit}
use Rattle.module_parts.specs.declared.unit.Unit.TheVariants.{Nothing, Site as PatchedSite}
use Rattle.module_image.specs.Layout.{Layout, laid, is_patched_at, site_at}
use Rattle.module_image.specs.Sweeping.{HasSites, site_in, unit_of_site}
use Rattle.module_image.specs.Text.{AreInside, AreApart, IsInside}
use Rattle.module_image.proofs.Positions.{found_some, found_more, found_last, slice_get-set_same, slice_get-set_other, slice_get-take, take_then, length-take-within, written_back}

-- a site that isn't foreign and begins at an address
pub patched_parts : (at : ℕ) (s : Site) → is_patched_at at s ≡ true → (s.foreign ≡ false) × (s.at ≡ at)
patched_parts at s is =
    let parts = and_parts (not s.foreign) (s.at == at) is in
    (not-true s.foreign parts.0, eqb-true s.at at parts.1)

pub patched_from : (at : ℕ) (s : Site) → s.foreign ≡ false → s.at ≡ at → is_patched_at at s ≡ true
patched_from at s ours same = rw ours (eq-eqb s.at at same)

foreign_not : (at : ℕ) (s : Site) → s.foreign ≡ true → is_patched_at at s ≡ false
foreign_not at s foreign = rw foreign refl

elsewhere_not : (at : ℕ) (s : Site) → s.at ≢ at → is_patched_at at s ≡ false
elsewhere_not at s other = and_right (not s.foreign) (s.at == at) (ne_eqb s.at at other)

-- a site isn't empty
pub some_len : (base size : ℕ) (s : Site) → IsInside base size s → 2 ≤ s.len
some_len base size s inside = elim inside.two_or_five [ inl two ↦ omega (arith, two) | inr five ↦ omega (arith, five) ]

-- no site before another begins where it does
none_before : (base size : ℕ) (sites : List Site) (n : ℕ) (s : Site) → AreInside base size sites → AreApart sites → slice_get sites n ≡ Some s → (o : Option ℕ) → site_at (take n sites) s.at ≡ o → o ≡ None
none_before base size sites n s inside apart here None is = refl
none_before base size sites n s inside apart here (Some i) is =
    let found = found_some (is_patched_at s.at) (take n sites) i is in
    let lt : i < n = (let short = length-take-within sites n s here in let within = slice_get_within (take n sites) i found.item found.here in omega (arith, short, within)) in
    let at_i : slice_get sites i ≡ Some found.item = sym (slice_get-take sites n i lt) ∙ found.here in
    let long = some_len base size found.item (inside i found.item at_i) in
    let before = apart i n found.item s lt at_i here in
    let same = (patched_parts s.at found.item found.passes).1 in
    absurd (omega (arith, long, before, same))

-- before any site is put there is nothing
nothing_at : (n k : ℕ) → k < n → slice_get (replicate n Nothing) k ≡ Some Nothing
nothing_at zero k lt = absurd (omega (arith, lt))
nothing_at (suc n) zero lt = refl
nothing_at (suc n) (suc k) lt = nothing_at n k (omega (arith, lt))

pub units_begin : (base : ℕ) (text : List ℕ) (sites : List Site) (units : List Unit) → units ≡ replicate (length text) Nothing → HasSites (laid base text (take 0 sites)) units 0
units_begin base text sites units are = record {
  same_length = ap length are ∙ length-replicate (length text) Nothing;
  each = λ k low lt. ap (λ us. slice_get us k) are ∙ nothing_at (length text) k lt;
}

-- the units once one site more is put
units_step : (base : ℕ) (text : List ℕ) (sites : List Site) (n : ℕ) (s : Site) (units new : List Unit) → AreInside base (length text) sites → AreApart sites → slice_get sites n ≡ Some s → HasSites (laid base text (take n sites)) units 0 → (f : Bool) → s.foreign ≡ f → new ≡ (if f then units else set units (s.at - base) (PatchedSite n)) → HasSites (laid base text (take (n + 1) sites)) new 0
units_step base text sites n s units new inside apart here are true foreign is =
    let more : (at : ℕ) → site_at (take n sites) at ≡ site_at (take (n + 1) sites) at = λ at. sym (ap (λ ss. site_at ss at) (take_then sites n s here) ∙ found_more (is_patched_at at) (take n sites) s (foreign_not at s foreign)) in
    record {
      same_length = ap length is ∙ are.same_length;
      each = λ k low lt. ap (λ us. slice_get us k) is ∙ are.each k low lt ∙ ap (λ o. Some (unit_of_site o)) (more (base + k));
    }
units_step base text sites n s units new inside apart here are false ours is =
    let within = inside n s here in
    let long = some_len base (length text) s within in
    let place : s.at - base < length units = omega (arith, within.from, within.to, long, are.same_length) in
    let more : (at : ℕ) → s.at ≢ at → site_at (take n sites) at ≡ site_at (take (n + 1) sites) at = λ at other. sym (ap (λ ss. site_at ss at) (take_then sites n s here) ∙ found_more (is_patched_at at) (take n sites) s (elsewhere_not at s other)) in
    let found : (at : ℕ) → s.at ≡ at → site_at (take (n + 1) sites) at ≡ Some n =
    λ at same. ap (λ ss. site_at ss at) (take_then sites n s here) ∙ found_last (is_patched_at at) (take n sites) s (patched_from at s ours same) (subst (λ (a : ℕ). site_at (take n sites) a ≡ None) same (none_before base (length text) sites n s inside apart here (site_at (take n sites) s.at) refl)) ∙ ap Some (length-take-within sites n s here) in
    record {
      same_length = ap length is ∙ length-set units (s.at - base) (PatchedSite n) ∙ are.same_length;
      each = λ k low lt. ap (λ us. slice_get us k) is ∙ elim (cases_eq k (s.at - base)) [
        | inl same ↦ (let at : s.at ≡ base + k = omega (arith, same, within.from) in slice_get-set_same units (s.at - base) k (PatchedSite n) place same ∙ ap (λ o. Some (unit_of_site o)) (sym (found (base + k) at)))
        | inr other ↦ (let not_at : s.at ≢ base + k = λ at. other (omega (arith, at)) in slice_get-set_other units (s.at - base) k (PatchedSite n) other ∙ are.each k low lt ∙ ap (λ o. Some (unit_of_site o)) (more (base + k) not_at))
      ];
    }

-- the same where the site is read by its number, and the units are lent and written back
pub units_written : (base : ℕ) (text : List ℕ) (sites : List Site) (n : ℕ) (d : Site) (units lent new rest : List Unit) (len : ℕ) → AreInside base (length text) sites → AreApart sites → n < length sites → HasSites (laid base text (take n sites)) units 0 → lent ≡ units → length new ≡ length lent → len ≡ length units → new ≡ (if (get_or sites n d).foreign then lent else set lent ((get_or sites n d).at - base) (PatchedSite n)) → HasSites (laid base text (take (n + 1) sites)) (take len (new ++ rest)) 0
units_written base text sites n d units lent new rest len inside apart lt are same kept size is =
    let s = get_or sites n d in
    let whole : take len (new ++ rest) ≡ new = written_back len new rest (kept ∙ ap length same ∙ sym size) in
    let step = units_step base text sites n s units new inside apart (slice_get-get_or sites n d lt) are s.foreign refl (is ∙ ap (λ us. if s.foreign then us else set us (s.at - base) (PatchedSite n)) same) in
    subst (λ (us : List Unit). HasSites (laid base text (take (n + 1) sites)) us 0) (sym whole) step

-- the site that was put at an offset
site_back : (o : Option ℕ) → site_in (Some (unit_of_site o)) ≡ o
site_back None = refl
site_back (Some n) = refl

pub site_told : (t : Layout) (units : List Unit) (k : ℕ) → HasSites t units k → k < length t.text → site_in (slice_get units k) ≡ site_at t.sites (t.base + k)
site_told t units k are lt = ap site_in (are.each k (omega arith) lt) ∙ site_back (site_at t.sites (t.base + k))
