-- The units of a text, noted from its first byte on, one after the other.
use Rattle.std.proofs.Common.{length-drop, ◌≡◌, ◌≢◌, ◌<◌, ◌≤◌, ◌+◌, ◌-◌, ◌∙◌, ◌&&◌, ◌⊎◌, if◌then◌else◌, nat_le, ℕ, Bool, true, false, List, length, set, drop, Option, Some, None, Ok, Err, refl, ap, sym, subst, arith, inl, inr}
use Rattle.std.specs.List.{slice_get, slice_range, list_all}
use Rattle.std.proofs.lemmas.Bool.{leb-true, le-leb, cases_eq, cases_lt}
use Rattle.std.proofs.lemmas.Grind.{common_steps}
use Rattle.std.proofs.lemmas.List.{length-set}
use Rattle.std.proofs.lemmas.Option.{same_Some, slice_get_within}
use Rattle.x64_subset.specs.declared.insn.Insn.{Insn}
use Rattle.x64_subset.specs.Reading.{Answer, read}
use Rattle.module_parts.specs.declared.unit.Unit.{Unit}
use Rattle.module_parts.specs.declared.unit.Unit.TheVariants.{Nothing, Plain}
use Rattle.module_image.specs.Layout.{Layout, is_patched_at, no_site_between, site_at, text_end, plain_unit, unit_of, unit_at, len_of, unit_len, IsStart, IsNoted, IsSwept}
use Rattle.module_image.specs.Layout.IsStart.{the_first, the_end}
use Rattle.module_image.specs.Sweeping.{HasSites, is_nothing, unit_of_site}
use Rattle.module_image.specs.Text.{AreApart, AreInside}
use Rattle.module_image.proofs.Between.{between_units}
use Rattle.module_image.proofs.Marking.{patched_parts}
use Rattle.module_image.proofs.UnitLaws.{no_site_inside, site_is}
use Rattle.module_image.proofs.Positions.{found_some, slice_get-set_same, slice_get-set_other}

-- what stands after an offset
rest_whole : {X : Type 0} (xs : List X) (n : ℕ) → slice_range xs n (length xs) ≡ drop n xs
rest_whole xs n = grind (arith, common_steps)

-- the plain instruction that was decoded at an offset is the unit there where nothing stands in it
pub plain_noted : (t : Layout) (units : List Unit) (offset end : ℕ) (insn : Insn) (len : ℕ) (clear told : Bool) → (let rest = slice_range t.text offset (length t.text) in HasSites t units offset → Ok (insn, len) ≡ read (t.base + offset) rest → 1 ≤ len → len ≤ length rest → offset < length t.text → end ≡ len → clear ≡ list_all is_nothing (slice_range units (offset + 1) (offset + end)) → clear ≡ told → (if told then Plain insn len else Nothing) ≡ plain_unit t (t.base + offset) (read (t.base + offset) (drop offset t.text)))
plain_noted t units offset end insn len clear told are is some short lt ends clears tells =
    let whole = rest_whole t.text offset in
    let size = ap length whole ∙ length-drop offset t.text in
    let within : offset + len ≤ length t.text = omega (arith, short, size, lt) in
    let reads : Ok (insn, len) ≡ read (t.base + offset) (drop offset t.text) = is ∙ ap (read (t.base + offset)) whole in
    let sum : t.base + (offset + len) ≡ t.base + offset + len = omega arith in
    let fits : t.base + offset + len ≤ text_end t = omega (arith, within) in
    let same : no_site_between t.sites (t.base + offset) (t.base + offset + len) ≡ told =
    ap (no_site_between t.sites (t.base + offset)) (sym sum)
    ∙ sym (between_units t units offset (offset + len) are (omega (arith, some)) within)
    ∙ ap (λ e. list_all is_nothing (slice_range units (offset + 1) (offset + e))) (sym ends)
    ∙ sym clears
    ∙ tells in
    sym (ap (plain_unit t (t.base + offset)) (sym reads) ∙ rw (le-leb (t.base + offset + len) (text_end t) fits, same) refl)

-- a unit ends inside the text
fits_if : (t : Layout) (at end len : ℕ) (insn : Insn) (b c : Bool) → at ≤ end → (b ≡ true → at + len ≤ end) → at + unit_len t (if b && c then Plain insn len else Nothing) ≤ end
fits_if t at end len insn true true le fits = fits refl
fits_if t at end len insn true false le fits = omega (arith, le)
fits_if t at end len insn false c le fits = omega (arith, le)

plain_fits : (t : Layout) (at : ℕ) (a : Answer) → at ≤ text_end t → at + unit_len t (plain_unit t at a) ≤ text_end t
plain_fits t at (Ok (insn, len)) le = fits_if t at (text_end t) len insn (nat_le (at + len) (text_end t)) (no_site_between t.sites at (at + len)) le (leb-true (at + len) (text_end t))
plain_fits t at (Err why) le = omega (arith, le)

of_fits : (t : Layout) (at : ℕ) (o : Option ℕ) → AreInside t.base (length t.text) t.sites → site_at t.sites at ≡ o → at ≤ text_end t → at + unit_len t (unit_of t at o) ≤ text_end t
of_fits t at None inside is le = plain_fits t at (read at (drop (at - t.base) t.text)) le
of_fits t at (Some n) inside is le =
    let found = found_some (is_patched_at at) t.sites n is in
    let within = inside n found.item found.here in
    let same = (patched_parts at found.item found.passes).1 in
    let len : len_of (slice_get t.sites n) ≡ found.item.len = ap len_of found.here in
    omega (arith, within.to, same, len)

pub unit_fits : (t : Layout) (at : ℕ) → AreInside t.base (length t.text) t.sites → at ≤ text_end t → at + unit_len t (unit_at t at) ≤ text_end t
unit_fits t at inside le = of_fits t at (site_at t.sites at) inside refl le

-- an offset is the next one, or a unit is noted there
abbrev pub IsReached : Layout → List Unit → ℕ → ℕ → Type 0
IsReached t units at k = (k ≡ at) ⊎ IsNoted t units k

-- how far the units are noted: before an offset, which is the end of the last of them; from there on the sites stand
pub record Sweeping (t : Layout) (units : List Unit) (at : ℕ) : Type 0 where
  pub sites : HasSites t units at
  pub at_most : at ≤ length t.text
  pub here : at < length t.text → IsStart t (t.base + at)
  pub sound : (k : ℕ) (unit : Unit) → k < at → slice_get units k ≡ Some unit → 0 < unit_len t unit → IsStart t (t.base + k) × (unit_at t (t.base + k) ≡ unit)
  pub blank : (k : ℕ) (unit : Unit) → k < at → slice_get units k ≡ Some unit → unit_len t unit ≡ 0 → unit ≡ Nothing
  pub closed : (k : ℕ) (unit : Unit) → k < at → slice_get units k ≡ Some unit → 0 < unit_len t unit → IsReached t units at (k + unit_len t unit)
  pub first : IsReached t units at 0

-- at first nothing is
pub sweep_begins : (t : Layout) (units : List Unit) → HasSites t units 0 → Sweeping t units 0
sweep_begins t units has =
    let first_place : t.base ≡ t.base + 0 = omega arith in
    record {
      sites = has;
      at_most = omega arith;
      here = λ some. subst (IsStart t) first_place the_first;
      sound = λ k unit lt here some. absurd (omega (arith, lt));
      blank = λ k unit lt here none. absurd (omega (arith, lt));
      closed = λ k unit lt here some. absurd (omega (arith, lt));
      first = inl refl;
    }

-- what is noted stays noted
noted_kept : (t : Layout) (units : List Unit) (at k : ℕ) (unit : Unit) → at < length units → 0 < unit_len t unit → IsNoted t units k → IsNoted t (set units at unit) k
noted_kept t units at k unit lt some noted = elim (cases_eq k at) [
  | inl same ↦ record { unit = unit; get = slice_get-set_same units at k unit lt same; some = some }
  | inr other ↦ record { unit = noted.unit; get = slice_get-set_other units at k unit other ∙ noted.get; some = noted.some }
]

reached_kept : (t : Layout) (units : List Unit) (at k end : ℕ) (unit : Unit) → at < length units → 0 < unit_len t unit → IsReached t units at k → IsReached t (set units at unit) end k
reached_kept t units at k end unit lt some reached = elim reached [
  | inl same ↦ inr (record { unit = unit; get = slice_get-set_same units at k unit lt same; some = some })
  | inr noted ↦ inr (noted_kept t units at k unit lt some noted)
]

-- no site begins inside a unit
no_site_in : (t : Layout) (at to : ℕ) → AreInside t.base (length t.text) t.sites → AreApart t.sites → at < to → to < at + unit_len t (unit_at t at) → (o : Option ℕ) → site_at t.sites to ≡ o → o ≡ None
no_site_in t at to inside apart after before None is = refl
no_site_in t at to inside apart after before (Some i) is =
    let found = site_is t to i is in
    let same = found.same in
    absurd (no_site_inside t at i found.site inside apart found.here found.ours (omega (arith, same, after)) (omega (arith, same, before)))

-- nothing has no length
blank_len : (t : Layout) (unit : Unit) → unit ≡ Nothing → 0 < unit_len t unit → ⊥
blank_len t unit is some = (let len : unit_len t unit ≡ 0 = ap (unit_len t) is in omega (arith, len, some))

-- one unit more
pub sweep_step : (t : Layout) (units : List Unit) (at : ℕ) (unit : Unit) → AreInside t.base (length t.text) t.sites → AreApart t.sites → Sweeping t units at → at < length t.text → unit_at t (t.base + at) ≡ unit → 0 < unit_len t unit → at + unit_len t unit ≤ length t.text → Sweeping t (set units at unit) (at + unit_len t unit)
sweep_step t units at unit inside apart before lt is some fits =
    let size = before.sites.same_length in
    let within : at < length units = omega (arith, lt, size) in
    let len : unit_len t (unit_at t (t.base + at)) ≡ unit_len t unit = ap (unit_len t) is in
    let wrote : (k : ℕ) (u : Unit) → k ≡ at → slice_get (set units at unit) k ≡ Some u → unit ≡ u = λ k u same here. same_Some unit u (sym (slice_get-set_same units at k unit within same) ∙ here) in
    let kept : (k : ℕ) (u : Unit) → k ≢ at → slice_get (set units at unit) k ≡ Some u → slice_get units k ≡ Some u = λ k u other here. sym (slice_get-set_other units at k unit other) ∙ here in
    let nothing : (k : ℕ) (u : Unit) → k ≢ at → at ≤ k → k < at + unit_len t unit → slice_get (set units at unit) k ≡ Some u → u ≡ Nothing =
    λ k u other from to here.
    let ahead = before.sites.each k from (omega (arith, to, fits)) in
    let none = no_site_in t (t.base + at) (t.base + k) inside apart (omega (arith, other, from)) (omega (arith, to, len)) (site_at t.sites (t.base + k)) refl in
    same_Some u (unit_of_site (site_at t.sites (t.base + k))) (sym (kept k u other here) ∙ ahead) ∙ ap unit_of_site none in
    record {
      sites = record {
        same_length = length-set units at unit ∙ size;
        each = λ k low short. slice_get-set_other units at k unit (λ e. omega (arith, e, low, some)) ∙ before.sites.each k (omega (arith, low)) short;
      };
      at_most = fits;
      here = λ more. the_end (t.base + at) (t.base + (at + unit_len t unit)) (before.here lt) (omega (arith, len, some)) (omega (arith, len)) (omega (arith, more));
      sound = λ k u below here long. elim (cases_eq k at) [
        | inl same ↦ (
            let place : t.base + at ≡ t.base + k = ap (λ n. t.base + n) (sym same) in
            (subst (IsStart t) place (before.here lt), ap (unit_at t) (sym place) ∙ is ∙ wrote k u same here))
        | inr other ↦ elim (cases_lt k at) [
          | inl earlier ↦ before.sound k u earlier (kept k u other here) long
          | inr later ↦ absurd (blank_len t u (nothing k u other later below here) long)
        ]
      ];
      blank = λ k u below here none. elim (cases_eq k at) [
        | inl same ↦ (let size : unit_len t unit ≡ unit_len t u = ap (unit_len t) (wrote k u same here) in absurd (omega (arith, size, none, some)))
        | inr other ↦ elim (cases_lt k at) [
          | inl earlier ↦ before.blank k u earlier (kept k u other here) none
          | inr later ↦ nothing k u other later below here
        ]
      ];
      closed = λ k u below here long. elim (cases_eq k at) [
        | inl same ↦ (let size : unit_len t unit ≡ unit_len t u = ap (unit_len t) (wrote k u same here) in inl (omega (arith, same, size)))
        | inr other ↦ elim (cases_lt k at) [
          | inl earlier ↦ reached_kept t units at (k + unit_len t u) (at + unit_len t unit) unit within some (before.closed k u earlier (kept k u other here) long)
          | inr later ↦ absurd (blank_len t u (nothing k u other later below here) long)
        ]
      ];
      first = reached_kept t units at 0 (at + unit_len t unit) unit within some before.first;
    }

-- at the end each start has its unit
noted_at : (t : Layout) (units : List Unit) (at k : ℕ) → k ≢ at → IsReached t units at k → IsNoted t units k
noted_at t units at k other reached = elim reached [ inl same ↦ absurd (other same) | inr noted ↦ noted ]

complete : (t : Layout) (units : List Unit) → 0 < length t.text → Sweeping t units (length t.text) → (a : ℕ) → IsStart t a → (t.base ≤ a) × (a < text_end t) × IsNoted t units (a - t.base)
complete t units some swept a (the_first) =
    let first_place : 0 ≡ t.base - t.base = omega arith in
    (omega arith, omega (arith, some), subst (λ (k : ℕ). IsNoted t units k) first_place (noted_at t units (length t.text) 0 (λ e. omega (arith, e, some)) swept.first))
complete t units some swept b (the_end a _ start long e lt) =
    let before = complete t units some swept a start in
    let place : t.base + (a - t.base) ≡ a = omega (arith, before.0) in
    let offset : a - t.base < length t.text = omega (arith, before.0, before.1) in
    let is : unit_at t a ≡ before.2.unit = ap (unit_at t) (sym place) ∙ (swept.sound (a - t.base) before.2.unit offset before.2.get before.2.some).1 in
    let len : unit_len t (unit_at t a) ≡ unit_len t before.2.unit = ap (unit_len t) is in
    let reached = swept.closed (a - t.base) before.2.unit offset before.2.get before.2.some in
    let there : a - t.base + unit_len t before.2.unit ≡ b - t.base = omega (arith, len, e, before.0) in
    let not_last : a - t.base + unit_len t before.2.unit ≢ length t.text = λ last. omega (arith, last, len, e, lt, before.0) in
    (omega (arith, before.0, e), lt, subst (λ (k : ℕ). IsNoted t units k) there (noted_at t units (length t.text) (a - t.base + unit_len t before.2.unit) not_last reached))

pub sweep_ends : (t : Layout) (units : List Unit) (at : ℕ) → 0 < length t.text → Sweeping t units at → length t.text ≤ at → IsSwept t units
sweep_ends t units at some swept done =
    let end : at ≡ length t.text = omega (arith, done, swept.at_most) in
    let whole : Sweeping t units (length t.text) = subst (λ (k : ℕ). Sweeping t units k) end swept in
    let size = whole.sites.same_length in
    let below : (k : ℕ) (unit : Unit) → slice_get units k ≡ Some unit → k < length t.text = λ k unit here. (let lt = slice_get_within units k unit here in omega (arith, lt, size)) in
    record {
      same_length = size;
      sound = λ k unit here long. whole.sound k unit (below k unit here) here long;
      complete = complete t units some whole;
      blank = λ k unit here none. whole.blank k unit (below k unit here) here none;
    }

-- the same where the unit and its length were told
pub sweep_told : (t : Layout) (units : List Unit) (at len step : ℕ) (unit : Unit) → AreInside t.base (length t.text) t.sites → AreApart t.sites → Sweeping t units at → at < length t.text → unit ≡ unit_at t (t.base + at) → len ≡ unit_len t unit → (len ≡ 0 → ⊥) → step ≡ len → Sweeping t (set units at unit) (at + step)
sweep_told t units at len step unit inside apart before lt is size some steps =
    let below : t.base + at ≤ text_end t = omega (arith, lt) in
    let fits = unit_fits t (t.base + at) inside below in
    let same : unit_len t unit ≡ unit_len t (unit_at t (t.base + at)) = ap (unit_len t) is in
    let whole : at + unit_len t unit ≤ length t.text = omega (arith, fits, same) in
    let long : 0 < unit_len t unit = omega (arith, size, some) in
    let stepped : unit_len t unit ≡ step = sym size ∙ sym steps in
    subst (λ (k : ℕ). Sweeping t (set units at unit) (at + k)) stepped (sweep_step t units at unit inside apart before lt (sym is) long whole)
