-- What the changes between two states are, site by site.
use Rattle.std.proofs.Common.{◌≡◌, ◌∙◌, ◌⊎◌, inl, inr, ◌+◌, ◌<◌, ◌≤◌, ℕ, zero, suc, Bool, true, false, cond, List, [], ◌∷◌, ◌++◌, length, All, AllPairs, Option, Some, option_map, slice_get, slice_index_or, refl, sym, ap, subst, arith}
use Rattle.std.specs.List.{flat_map, range_with_len}
use Rattle.std.specs.Option.{unwrap_or}
use Rattle.std.proofs.lemmas.List.{append_assoc, append-nil, length-append}
use Rattle.std.proofs.lemmas.List.Elements.{All-append, All-nil, All-cons}
use Rattle.std.proofs.lemmas.List.Kept.{AllPairs-cons}
use Rattle.insn_forms.specs.declared.forms.Form.{Form}
use Rattle.insn_forms.specs.declared.forms.Change.{Change}
use Rattle.insn_forms.specs.Same.{same_form}
use Rattle.insn_forms.proofs.Same.{same_true}
use Rattle.key_state.specs.Changes.{change_at, change_between, change_of}
use Rattle.module_parts.specs.declared.site.Site.{Site}
use Rattle.module_image.specs.Module.{Module, States, tracer_of, wants}
use Rattle.module_image.specs.Wants.{state_of, wanted}

-- a site that wants the same before and after
pub record WantsSame (m : Module) (old new : States) (i : ℕ) : Type 0 where
  pub form : Form
  pub before : wants m old i ≡ Some form
  pub later : wants m new i ≡ Some form

-- a change is that of the site with a number, between the two forms that it wants
pub record IsChangeOf (m : Module) (old new : States) (i : ℕ) (c : Change) : Type 0 where
  pub site : Site
  pub here : slice_get m.sites i ≡ Some site
  pub at : c.at ≡ site.at
  pub before : wants m old i ≡ Some c.old
  pub later : wants m new i ≡ Some c.new

-- the form that a site wants
abbrev pub form_of : Module → States → ℕ → Site → Form
form_of m states i s =
    wanted (unwrap_or (tracer_of m) 0) (state_of states.keys s.kind) (slice_index_or states.traced i false) s.len s.kind

pub wants_form : (m : Module) (states : States) (i : ℕ) (s : Site) → slice_get m.sites i ≡ Some s → wants m states i ≡ Some (form_of m states i s)
wants_form m states i s here = ap (λ (o : Option Site). option_map (form_of m states i) o) here

-- a site wants the same before and after, or there is its change
abbrev pub Told : Module → States → States → ℕ → Type 0
Told m old new i =
    (WantsSame m old new i × (change_at m old new i ≡ [])) ⊎ ((c : Change) × IsChangeOf m old new i c × (change_at m old new i ≡ c ∷ []))

-- the change of a site, by its two forms
change_is : (m : Module) (old new : States) (i : ℕ) (s : Site) → slice_get m.sites i ≡ Some s → change_at m old new i ≡ change_between s.at (Some (form_of m old i s)) (Some (form_of m new i s))
change_is m old new i s here =
    ap (λ (o : Option Site). change_of o (option_map (form_of m old i) o) (option_map (form_of m new i) o)) here

pub told : (m : Module) (old new : States) (i : ℕ) (s : Site) → slice_get m.sites i ≡ Some s → Told m old new i
told m old new i s here = by (same_form f g) refl (change_is m old new i s here)
  where
    f : Form
    f = form_of m old i s

    g : Form
    g = form_of m new i s

    by : (test : Bool) → same_form f g ≡ test → change_at m old new i ≡ cond test [] (record { at = s.at; old = f; new = g } ∷ []) → Told m old new i
    by true same is =
        inl (record { form = f; before = wants_form m old i s here; later = wants_form m new i s here ∙ ap Some (sym (same_true f g same)) }, is)
    by false other is =
        inr (record { at = s.at; old = f; new = g }, record { site = s; here = here; at = refl; before = wants_form m old i s here; later = wants_form m new i s here }, is)

-- the changes of n sites from the one with a number on
abbrev pub changes_from : Module → States → States → ℕ → ℕ → List Change
changes_from m old new a n = flat_map (change_at m old new) (range_with_len a n)

-- what holds of each change holds of all
all_at : (P : Change → Type 0) (m : Module) (old new : States) (i : ℕ) → Told m old new i → ((c : Change) → IsChangeOf m old new i c → P c) → All P (change_at m old new i)
all_at P m old new i (inl (same, is)) each = subst (All P) (sym is) (All-nil P)
all_at P m old new i (inr (c, change, is)) each = subst (All P) (sym is) (All-cons P c [] (each c change) (All-nil P))

-- there is a site with each number below how many there are
site_there : (sites : List Site) (i : ℕ) → i < length sites → (s : Site) × (slice_get sites i ≡ Some s)
site_there [] i below = absurd (omega (arith, below))
site_there (s ∷ ss) zero below = (s, refl)
site_there (s ∷ ss) (suc i) below = site_there ss i (omega (arith, below))

pub told_below : (m : Module) (old new : States) (i : ℕ) → i < length m.sites → Told m old new i
told_below m old new i below = (let there = site_there m.sites i below in told m old new i there.0 there.1)

pub all_from : (P : Change → Type 0) (m : Module) (old new : States) (a n : ℕ) → a + n ≤ length m.sites → ((i : ℕ) (c : Change) → a ≤ i → IsChangeOf m old new i c → P c) → All P (changes_from m old new a n)
all_from P m old new a zero few each = All-nil P
all_from P m old new a (suc n) few each =
    All-append P (change_at m old new a) (changes_from m old new (a + 1) n)
    (all_at P m old new a (told_below m old new a (omega (arith, few))) (λ c is. each a c (omega arith) is))
    (all_from P m old new (a + 1) n (omega (arith, few)) (λ i c low is. each i c (omega (arith, low)) is))

-- what holds of each change and a later one holds of all pairs
pairs_step : (R : Change → Change → Type 0) (m : Module) (old new : States) (i : ℕ) (rest : List Change) → Told m old new i → AllPairs R rest → ((c : Change) → IsChangeOf m old new i c → All (R c) rest) → AllPairs R (change_at m old new i ++ rest)
pairs_step R m old new i rest (inl (same, is)) pairs each =
    subst (λ (cs : List Change). AllPairs R (cs ++ rest)) (sym is) pairs
pairs_step R m old new i rest (inr (c, change, is)) pairs each =
    subst (λ (cs : List Change). AllPairs R (cs ++ rest)) (sym is) (AllPairs-cons R c rest (each c change) pairs)

pub pairs_from : (R : Change → Change → Type 0) (m : Module) (old new : States) (a n : ℕ) → a + n ≤ length m.sites → ((i j : ℕ) (c d : Change) → a ≤ i → i < j → IsChangeOf m old new i c → IsChangeOf m old new j d → R c d) → AllPairs R (changes_from m old new a n)
pairs_from R m old new a zero few each = λ i j d later below. absurd (omega (arith, below))
pairs_from R m old new a (suc n) few each =
    pairs_step R m old new a (changes_from m old new (a + 1) n) (told_below m old new a (omega (arith, few)))
    (pairs_from R m old new (a + 1) n (omega (arith, few)) (λ i j c d low later. each i j c d (omega (arith, low)) later))
    (λ c is. all_from (R c) m old new (a + 1) n (omega (arith, few)) (λ j d low. each a j c d (omega arith) (omega (arith, low)) is))

-- one site more
pub changes_more : (m : Module) (old new : States) (n : ℕ) → changes_from m old new 0 (n + 1) ≡ changes_from m old new 0 n ++ change_at m old new n
changes_more m old new n = ends 0 n n (omega arith)
  where
    f : ℕ → List Change
    f = change_at m old new

    ends : (a k j : ℕ) → a + k ≡ j → flat_map f (range_with_len a (k + 1)) ≡ flat_map f (range_with_len a k) ++ f j
    ends a zero j same = append-nil (f a) ∙ ap f (let is : a ≡ j = omega (arith, same) in is)
    ends a (suc k) j same =
        let next : suc k + 1 ≡ suc (k + 1) = omega arith in
        ap (λ (i : ℕ). flat_map f (range_with_len a i)) next
        ∙ ap (λ (cs : List Change). f a ++ cs) (ends (a + 1) k j (omega (arith, same)))
        ∙ sym (append_assoc (f a) (flat_map f (range_with_len (a + 1) k)) (f j))

-- how many changes there may be
pub few_changes : (m : Module) (old new : States) (n : ℕ) → n ≤ length m.sites → length (changes_from m old new 0 n) ≤ n
few_changes m old new n few = few_from 0 n (omega (arith, few))
  where
    most : (i : ℕ) → Told m old new i → length (change_at m old new i) ≤ 1
    most i (inl (same, is)) = rw is (omega arith)
    most i (inr (c, change, is)) = rw is (omega arith)

    few_from : (a k : ℕ) → a + k ≤ length m.sites → length (changes_from m old new a k) ≤ k
    few_from a zero few = omega arith
    few_from a (suc k) few =
        let one = most a (told_below m old new a (omega (arith, few))) in
        let rest = few_from (a + 1) k (omega (arith, few)) in
        omega (arith, length-append (change_at m old new a) (changes_from m old new (a + 1) k), one, rest)
