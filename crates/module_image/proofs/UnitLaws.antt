-- Sites that aren't foreign, among the units of their text.
use Rattle.std.proofs.Common.{◌≡◌, ◌<◌, ◌≤◌, ◌+◌, ◌-◌, ◌∙◌, ◌&&◌, if◌then◌else◌, nat_le, nat_lt, ltb-false, ℕ, zero, suc, Bool, true, false, List, length, drop, Option, Some, None, Ok, Err, refl, ap, sym, subst, arith, inl, inr}
use Rattle.std.specs.List.{slice_get}
use Rattle.std.proofs.lemmas.Bool.{cases_lt, cases_order, cases_eq, le-ltb, leb-true}
use Rattle.std.proofs.lemmas.Option.{none-some, same_Some}
use Rattle.x64_subset.specs.declared.insn.Insn.{Insn}
use Rattle.x64_subset.specs.Reading.{Answer, read}
use Rattle.module_parts.specs.declared.site.Site.{Site}
use Rattle.module_parts.specs.declared.unit.Unit.{Unit}
use Rattle.module_parts.specs.declared.unit.Unit.TheVariants.{Nothing, Plain, Site as PatchedSite}
use Rattle.module_image.specs.Layout.{Layout, is_patched_at, is_clear, no_site_between, site_at, text_end, plain_unit, unit_of, unit_at, len_of, unit_len, IsStart, IsSwept}
use Rattle.module_image.specs.Layout.IsStart.{the_first, the_end}
use Rattle.module_image.specs.Sweeping.{site_in}
use Rattle.module_image.specs.Text.{AreInside, AreApart}
use Rattle.module_image.proofs.Between.{all_at, clear_outside}
use Rattle.module_image.proofs.Marking.{patched_parts, patched_from, some_len}
use Rattle.module_image.proofs.Positions.{found_none, found_some}
use Rattle.module_image.proofs.Starts.{is_noted, noted_unit}

-- a number that is found at an address is that of a site that isn't foreign and begins there
pub record IsSiteAt (t : Layout) (at n : ℕ) : Type 0 where
  pub site : Site
  pub here : slice_get t.sites n ≡ Some site
  pub ours : site.foreign ≡ false
  pub same : site.at ≡ at

pub site_is : (t : Layout) (at n : ℕ) → site_at t.sites at ≡ Some n → IsSiteAt t at n
site_is t at n is =
    let found = found_some (is_patched_at at) t.sites n is in
    let parts = patched_parts at found.item found.passes in
    record { site = found.item; here = found.here; ours = parts.0; same = parts.1 }

-- two sites that begin at one address are one
same_number : (t : Layout) (i j : ℕ) (s u : Site) → AreInside t.base (length t.text) t.sites → AreApart t.sites → slice_get t.sites i ≡ Some s → slice_get t.sites j ≡ Some u → u.at ≡ s.at → j ≡ i
same_number t i j s u inside apart here there same =
    let s_long = some_len t.base (length t.text) s (inside i s here) in
    let u_long = some_len t.base (length t.text) u (inside j u there) in
    elim (cases_order j i) [
      | inl is ↦ is
      | inr other ↦ elim other [
        | inl before ↦ (let ends = apart j i u s before there here in absurd (omega (arith, ends, u_long, same)))
        | inr after ↦ (let ends = apart i j s u after here there in absurd (omega (arith, ends, s_long, same)))
      ]
    ]

-- a site that isn't foreign is found by its address
pub site_numbered : (t : Layout) (i : ℕ) (s : Site) → AreInside t.base (length t.text) t.sites → AreApart t.sites → slice_get t.sites i ≡ Some s → s.foreign ≡ false → site_at t.sites s.at ≡ Some i
site_numbered t i s inside apart here ours = told (site_at t.sites s.at) refl
  where
    told : (o : Option ℕ) → site_at t.sites s.at ≡ o → site_at t.sites s.at ≡ Some i
    told None is =
        let fails = found_none (is_patched_at s.at) t.sites i s is here in
        let passes = patched_from s.at s ours refl in
        cc
    told (Some j) is =
        let found = site_is t s.at j is in
        is ∙ ap Some (same_number t i j s found.site inside apart here found.here found.same)

-- its unit is the site
pub site_unit : (t : Layout) (i : ℕ) (s : Site) → AreInside t.base (length t.text) t.sites → AreApart t.sites → slice_get t.sites i ≡ Some s → s.foreign ≡ false → unit_at t s.at ≡ PatchedSite i
site_unit t i s inside apart here ours = ap (unit_of t s.at) (site_numbered t i s inside apart here ours)

-- a unit that is a site is the one that begins there
plain_no_site : (t : Layout) (at n : ℕ) (a : Answer) → plain_unit t at a ≡ PatchedSite n → ⊥
plain_no_site t at n (Err why) is = cc
plain_no_site t at n (Ok (insn, len)) is = either (nat_le (at + len) (text_end t) && no_site_between t.sites at (at + len)) is
  where
    either : (b : Bool) → (if b then Plain insn len else Nothing) ≡ PatchedSite n → ⊥
    either true is = cc
    either false is = cc

pub unit_site : (t : Layout) (at n : ℕ) → unit_at t at ≡ PatchedSite n → site_at t.sites at ≡ Some n
unit_site t at n is = told (site_at t.sites at) is
  where
    told : (o : Option ℕ) → unit_of t at o ≡ PatchedSite n → o ≡ Some n
    told None is = absurd (plain_no_site t at n (read at (drop (at - t.base) t.text)) is)
    told (Some m) is = (let same : m ≡ n = cc in ap Some same)

-- a unit that is a plain instruction is read there, ends inside the text, and no site begins in it
pub record IsPlainAt (t : Layout) (at : ℕ) (insn : Insn) (len : ℕ) : Type 0 where
  pub reads : read at (drop (at - t.base) t.text) ≡ Ok (insn, len)
  pub inside : at + len ≤ text_end t
  pub clear : no_site_between t.sites at (at + len) ≡ true

plain_parts : (t : Layout) (at : ℕ) (insn : Insn) (len : ℕ) (a : Answer) → plain_unit t at a ≡ Plain insn len → (a ≡ Ok (insn, len)) × (at + len ≤ text_end t) × (no_site_between t.sites at (at + len) ≡ true)
plain_parts t at insn len (Err why) is = cc
plain_parts t at insn len (Ok (i, l)) is = either (nat_le (at + l) (text_end t)) (no_site_between t.sites at (at + l)) refl refl is
  where
    either : (b c : Bool) → nat_le (at + l) (text_end t) ≡ b → no_site_between t.sites at (at + l) ≡ c → (if b && c then Plain i l else Nothing) ≡ Plain insn len → (◌≡◌ {A = Answer} (Ok (i, l)) (Ok (insn, len))) × (at + len ≤ text_end t) × (no_site_between t.sites at (at + len) ≡ true)
    either true true short clear is =
        let same : l ≡ len = cc in
        let instruction : i ≡ insn = cc in
        let answer : Insn → ℕ → Answer = λ x n. Ok (x, n) in
        (ap (λ x. answer x l) instruction ∙ ap (answer insn) same, subst (λ (n : ℕ). at + n ≤ text_end t) same (leb-true (at + l) (text_end t) short), subst (λ (n : ℕ). no_site_between t.sites at (at + n) ≡ true) same clear)
    either true false short clear is = cc
    either false c short clear is = cc

pub unit_plain : (t : Layout) (at : ℕ) (insn : Insn) (len : ℕ) → unit_at t at ≡ Plain insn len → IsPlainAt t at insn len
unit_plain t at insn len is = told (site_at t.sites at) is
  where
    told : (o : Option ℕ) → unit_of t at o ≡ Plain insn len → IsPlainAt t at insn len
    told None is =
        let parts = plain_parts t at insn len (read at (drop (at - t.base) t.text)) is in
        record { reads = parts.0; inside = parts.1; clear = parts.2 }
    told (Some m) is = cc

-- no site that isn't foreign begins inside a unit
pub no_site_inside : (t : Layout) (at i : ℕ) (s : Site) → AreInside t.base (length t.text) t.sites → AreApart t.sites → slice_get t.sites i ≡ Some s → s.foreign ≡ false → at < s.at → s.at < at + unit_len t (unit_at t at) → ⊥
no_site_inside t at i s inside apart here ours after before = told (unit_at t at) refl before
  where
    told : (unit : Unit) → unit_at t at ≡ unit → s.at < at + unit_len t unit → ⊥
    told Nothing is below = omega (arith, after, below)
    told (Plain insn len) is below =
        let plain = unit_plain t at insn len is in
        clear_outside at (at + len) s ours (all_at (is_clear at (at + len)) t.sites i s plain.clear here) after below
    told (PatchedSite n) is below =
        let found = site_is t at n (unit_site t at n is) in
        let size : len_of (slice_get t.sites n) ≡ found.site.len = ap len_of found.here in
        let same = found.same in
        elim (cases_order n i) [
          | inl one ↦ (
              let e : Some found.site ≡ Some s = sym found.here ∙ ap (slice_get t.sites) one ∙ here in
              let site : found.site.at ≡ s.at = ap (λ (u : Site). u.at) (same_Some found.site s e) in
              omega (arith, site, same, after))
          | inr other ↦ elim other [
            | inl first ↦ (let ends = apart n i found.site s first found.here here in omega (arith, ends, same, size, below))
            | inr later ↦ (let ends = apart i n s found.site later here found.here in omega (arith, ends, same, after))
          ]
        ]

-- each address of the text is in the unit of some start
pub record IsCovered (t : Layout) (at : ℕ) : Type 0 where
  pub place : ℕ
  pub start : IsStart t place
  pub from : place ≤ at
  pub to : at < place + unit_len t (unit_at t place)

pub covered : (t : Layout) → ((a : ℕ) → IsStart t a → 0 < unit_len t (unit_at t a)) → (k : ℕ) → k < length t.text → IsCovered t (t.base + k)
covered t decoded zero lt = (let long = decoded t.base the_first in record { place = t.base; start = the_first; from = omega arith; to = omega (arith, long) })
covered t decoded (suc k) lt =
    let before = covered t decoded k (omega (arith, lt)) in
    let from = before.from in
    let to = before.to in
    elim (cases_lt (t.base + suc k) (before.place + unit_len t (unit_at t before.place))) [
      | inl within ↦ record { place = before.place; start = before.start; from = omega (arith, from); to = within }
      | inr past_end ↦ (
          let next = the_end before.place (t.base + suc k) before.start (decoded before.place before.start) (omega (arith, to, past_end)) (omega (arith, lt)) in
          let long = decoded (t.base + suc k) next in
          record { place = t.base + suc k; start = next; from = omega arith; to = omega (arith, long) })
    ]

-- where each start has a unit, each site that isn't foreign is a start
pub site_starts : (t : Layout) (i : ℕ) (s : Site) → AreInside t.base (length t.text) t.sites → AreApart t.sites → ((a : ℕ) → IsStart t a → 0 < unit_len t (unit_at t a)) → slice_get t.sites i ≡ Some s → s.foreign ≡ false → IsStart t s.at
site_starts t i s inside apart decoded here ours =
    let within = inside i s here in
    let first = within.from in
    let last = within.to in
    let long = some_len t.base (length t.text) s within in
    let at : t.base + (s.at - t.base) ≡ s.at = omega (arith, first) in
    let unit : IsCovered t s.at = subst (IsCovered t) at (covered t decoded (s.at - t.base) (omega (arith, first, last, long))) in
    let from = unit.from in
    elim (cases_eq unit.place s.at) [
      | inl same ↦ subst (IsStart t) same unit.start
      | inr other ↦ (
          let after : unit.place < s.at = omega (arith, from, other) in
          absurd (no_site_inside t unit.place i s inside apart here ours after unit.to))
    ]

-- so it is in a swept text
pub swept_decoded : (t : Layout) (units : List Unit) → IsSwept t units → (a : ℕ) → IsStart t a → 0 < unit_len t (unit_at t a)
swept_decoded t units swept a start = (noted_unit t units a swept start).3

pub site_starts_swept : (t : Layout) (units : List Unit) (i : ℕ) (s : Site) → AreInside t.base (length t.text) t.sites → AreApart t.sites → IsSwept t units → slice_get t.sites i ≡ Some s → s.foreign ≡ false → IsStart t s.at
site_starts_swept t units i s inside apart swept here ours = site_starts t i s inside apart (swept_decoded t units swept) here ours

-- the site that is noted at an address is the one that begins there
noted_site : (t : Layout) (units : List Unit) (k : ℕ) (o : Option Unit) → IsSwept t units → slice_get units k ≡ o → site_at t.sites (t.base + k) ≡ None → site_in o ≡ None
noted_site t units k None swept here none = refl
noted_site t units k (Some Nothing) swept here none = refl
noted_site t units k (Some (Plain insn len)) swept here none = refl
noted_site t units k (Some (PatchedSite n)) swept here none =
    let there = is_noted t units k (PatchedSite n) swept here (λ e. cc) in
    absurd (none-some n (sym none ∙ unit_site t (t.base + k) n there.1))

pub site_noted : (t : Layout) (units : List Unit) (at : ℕ) → AreInside t.base (length t.text) t.sites → AreApart t.sites → IsSwept t units → (if nat_lt at t.base then None else site_in (slice_get units (at - t.base))) ≡ site_at t.sites at
site_noted t units at inside apart swept = told (site_at t.sites at) refl
  where
    none : (before : Bool) → nat_lt at t.base ≡ before → site_at t.sites at ≡ None → (if before then None else site_in (slice_get units (at - t.base))) ≡ None
    none true before is = refl
    none false from is =
        let le = ltb-false at t.base from in
        let place : t.base + (at - t.base) ≡ at = omega (arith, le) in
        noted_site t units (at - t.base) (slice_get units (at - t.base)) swept refl (ap (site_at t.sites) place ∙ is)

    told : (o : Option ℕ) → site_at t.sites at ≡ o → (if nat_lt at t.base then None else site_in (slice_get units (at - t.base))) ≡ site_at t.sites at
    told None is = none (nat_lt at t.base) refl is ∙ sym is
    told (Some n) is =
        let found = site_is t at n is in
        let start = subst (IsStart t) found.same (site_starts_swept t units n found.site inside apart swept found.here found.ours) in
        let there = noted_unit t units at swept start in
        rw (le-ltb at t.base there.0) (ap site_in (there.2 ∙ ap (λ o. Some (unit_of t at o)) is) ∙ sym is)
