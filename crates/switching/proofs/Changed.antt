-- The changes between two states of a module: at which sites they are, and between which forms.
use Rattle.std.proofs.Common.{◌≡◌, ◌≢◌, ◌∙◌, ◌+◌, ◌<◌, ◌≤◌, ◌⊎◌, inl, inr, ℕ, Bool, true, false, cond, List, [], ◌∷◌, length, Contains, find, Option, Some, None, slice_get, refl, sym, ap, subst, arith}
use Rattle.std.specs.Prelude.{IsSome}
use Rattle.std.specs.Option.{is_none, is_some}
use Rattle.std.proofs.lemmas.Bool.Decides.{Decides-eqb}
use Rattle.std.proofs.lemmas.Option.{same_Some, slice_get_within}
use Rattle.insn_forms.specs.declared.forms.Change.{Change}
use Rattle.insn_forms.specs.declared.forms.Form.{Form}
use Rattle.insn_forms.specs.declared.forms.Form.TheVariants.{Nop2, Nop5, Jmp8, Jmp32, Call, Ret}
use Rattle.insn_forms.specs.Same.{same_form}
use Rattle.insn_forms.specs.Spelling.{size, spell}
use Rattle.poke_batch.specs.Underway.{IsSpellable}
use Rattle.module_parts.specs.declared.site.Site.{Site}
use Rattle.module_image.specs.Layout.{site_at}
use Rattle.module_image.specs.Module.{IsAccepted, Module, States, wants}
use Rattle.key_state.specs.Changes.{AreStatesOf, change_at, change_between, change_of, changes, first_foreign, is_foreign}
use Rattle.key_state.proofs.Differing.{IsChangeOf, Told, told_below}
use Rattle.switching.specs.State.{text_end}
use Rattle.switching.specs.Switching.{wanted_at}
use Rattle.switching.proofs.Lookups.{in_range, one_in, first_in, in_cases, none_in, range_in}
use Rattle.switching.proofs.Patched.{IsSiteOf, one_number, site_of, text_below, wanted_is, wanted_there}

-- the change of a site with a number, whose two forms differ
pub record IsChangeAt (m : Module) (before later : States) (number : ℕ) (c : Change) : Type 0 where
  pub below : number < length m.sites
  pub change : IsChangeOf m before later number c
  pub differ : same_form c.old c.new ≡ false

-- a form is the same as itself
same_itself : (form : Form) → same_form form form ≡ true
same_itself Nop2 = refl
same_itself Nop5 = refl
same_itself (Jmp8 target) = (Decides-eqb target target).1 refl
same_itself (Jmp32 target) = (Decides-eqb target target).1 refl
same_itself (Call target) = (Decides-eqb target target).1 refl
same_itself Ret = refl

-- a change of a site is made only where its forms differ
between_differs : (at : ℕ) (old new : Option Form) (c : Change) → change_between at old new ≡ c ∷ [] → same_form c.old c.new ≡ false
between_differs at None new c is = cc
between_differs at (Some old) None c is = cc
between_differs at (Some old) (Some new) c is = by (same_form old new) refl is
  where
    by : (same : Bool) → same_form old new ≡ same → cond same [] (record { at = at; old = old; new = new } ∷ []) ≡ c ∷ [] → same_form c.old c.new ≡ false
    by true e is = cc
    by false e is =
        let change : record { at = at; old = old; new = new } ≡ c = cc in
        subst (λ (d : Change). same_form d.old d.new ≡ false) change e

of_differs : (s : Option Site) (old new : Option Form) (c : Change) → change_of s old new ≡ c ∷ [] → same_form c.old c.new ≡ false
of_differs None old new c is = cc
of_differs (Some s) old new c is = between_differs s.at old new c is

change_told : (m : Module) (before later : States) (i : ℕ) (c : Change) → i < length m.sites → Told m before later i → Contains (change_at m before later i) c → IsChangeAt m before later i c
change_told m before later i c below (inl (same, is)) has = absurd (none_in c (subst (λ (cs : List Change). Contains cs c) is has))
change_told m before later i c below (inr (d, change, is)) has =
    let same : c ≡ d = one_in d c (subst (λ (cs : List Change). Contains cs c) is has) in
    record {
      below = below;
      change = subst (IsChangeOf m before later i) (sym same) change;
      differ = subst (λ (x : Change). same_form x.old x.new ≡ false) (sym same) (of_differs (slice_get m.sites i) (wants m before i) (wants m later i) d is);
    }

pub changed_at : (m : Module) (before later : States) (c : Change) → Contains (changes m before later) c → (i : ℕ) × IsChangeAt m before later i c
changed_at m before later c has =
    let there = in_range (change_at m before later) 0 (length m.sites) c has in
    let below : there.0 < length m.sites = omega (arith, there.2) in
    (there.0, change_told m before later there.0 c below (told_below m before later there.0 below) there.3)

-- where no element passes a test, each one fails it
pub none_passes : {X : Type 0} (test : X → Bool) (xs : List X) (x : X) → find test xs ≡ None → Contains xs x → test x ≡ false
none_passes test [] x none has = absurd (none_in x has)
none_passes {X = X} test (y ∷ ys) x none has = by (test y) refl none (in_cases y x ys has) (none_passes test ys x)
  where
    by : (passes : Bool) → test y ≡ passes → cond passes (Some y) (find test ys) ≡ None → (x ≡ y) ⊎ Contains ys x → (find test ys ≡ None → Contains ys x → test x ≡ false) → test x ≡ false
    by true e none both rest = cc
    by false e none (inl same) rest = ap test same ∙ e
    by false e none (inr later) rest = rest none later

-- so each is of a patched site, which it leads from the form that it wants before to the one that it wants later
pub record IsChanged (m : Module) (before later : States) (c : Change) : Type 0 where
  pub number : ℕ
  pub found : site_at m.sites c.at ≡ Some number
  pub site : Site
  pub here : slice_get m.sites number ≡ Some site
  pub ours : site.foreign ≡ false
  pub begins : site.at ≡ c.at
  pub old : c.old ≡ wanted_at m before c.at
  pub new : c.new ≡ wanted_at m later c.at
  pub old_size : size c.old ≡ site.len
  pub new_size : size c.new ≡ site.len
  pub old_spelt : IsSome (spell c.old c.at)
  pub new_spelt : IsSome (spell c.new c.at)
  pub from : m.base ≤ c.at
  pub to : c.at + size c.old ≤ text_end m
  pub differ : c.old ≢ c.new

forms_differ : (old new : Form) → same_form old new ≡ false → old ≢ new
forms_differ old new differ same =
    let itself : same_form old old ≡ true = same_itself old in
    let clash : same_form old old ≡ false = ap (λ (f : Form). same_form old f) same ∙ differ in
    absurd (cc)

pub changed : (m : Module) (before later : States) (c : Change) → IsAccepted m → AreStatesOf m before → AreStatesOf m later → first_foreign m (changes m before later) ≡ None → Contains (changes m before later) c → IsChanged m before later c
changed m before later c accepted before_of later_of ours has = by (site_at m.sites c.at) refl
  where
    told : (i : ℕ) × IsChangeAt m before later i c
    told = changed_at m before later c has

    by : (o : Option ℕ) → site_at m.sites c.at ≡ o → IsChanged m before later c
    by None is =
        let own : is_foreign m c ≡ false = none_passes (is_foreign m) (changes m before later) c ours has in
        let foreign : is_foreign m c ≡ true = ap (λ (o : Option ℕ). is_none o) is in
        absurd (cc)
    by (Some n) is =
        let change = told.1.change in
        let there = site_of m c.at n accepted is in
        let same : told.0 ≡ n = one_number m n told.0 there.site change.site accepted there.here change.here (sym change.at ∙ sym there.begins) in
        let want : wants m before n ≡ Some c.old = ap (λ (i : ℕ). wants m before i) (sym same) ∙ change.before in
        let later_want : wants m later n ≡ Some c.new = ap (λ (i : ℕ). wants m later i) (sym same) ∙ change.later in
        let old : c.old ≡ wanted_at m before c.at = sym (wanted_is m before c.at n there.site c.old there.here is want) in
        let new : c.new ≡ wanted_at m later c.at = sym (wanted_is m later c.at n there.site c.new there.here is later_want) in
        let first = wanted_there m before c.at n accepted before_of is in
        let second = wanted_there m later c.at n accepted later_of is in
        let old_size : size c.old ≡ there.site.len = ap size old ∙ first.size_is in
        let to = there.to in
        record {
          number = n;
          found = is;
          site = there.site;
          here = there.here;
          ours = there.ours;
          begins = there.begins;
          old = old;
          new = new;
          old_size = old_size;
          new_size = ap size new ∙ second.size_is;
          old_spelt = ap is_some (ap (λ (f : Form). spell f c.at) old ∙ first.spelt);
          new_spelt = ap is_some (ap (λ (f : Form). spell f c.at) new ∙ second.spelt);
          from = there.from;
          to = omega (arith, to, old_size);
          differ = forms_differ c.old c.new told.1.differ;
        }

-- so it can be poked
pub changed_spellable : (m : Module) (before later : States) (c : Change) → IsAccepted m → IsChanged m before later c → IsSpellable c
changed_spellable m before later c accepted is =
    let to = is.to in
    let below = text_below m accepted in
    record { one_size = is.old_size ∙ sym is.new_size; old_spelt = is.old_spelt; new_spelt = is.new_spelt; below = omega (arith, to, below) }

-- a patched site that has no change wants the same before and later
pub unchanged : (m : Module) (before later : States) (at n : ℕ) → IsAccepted m → site_at m.sites at ≡ Some n → ((c : Change) → Contains (changes m before later) c → c.at ≡ at → ⊥) → wanted_at m before at ≡ wanted_at m later at
unchanged m before later at n accepted is none = by (told_below m before later n below)
  where
    there : IsSiteOf m at n
    there = site_of m at n accepted is

    below : n < length m.sites
    below = slice_get_within m.sites n there.site there.here

    by : Told m before later n → wanted_at m before at ≡ wanted_at m later at
    by (inl (same, no_change)) =
        wanted_is m before at n there.site same.form there.here is same.before
        ∙ sym (wanted_is m later at n there.site same.form there.here is same.later)
    by (inr (c, change, made)) =
        let site : change.site ≡ there.site = same_Some change.site there.site (sym change.here ∙ there.here) in
        let has : Contains (change_at m before later n) c = subst (λ (cs : List Change). Contains cs c) (sym made) (first_in c []) in
        absurd (none c (range_in (change_at m before later) 0 (length m.sites) n c (omega arith) (omega (arith, below)) has)
        (change.at ∙ ap (λ (s : Site). s.at) site ∙ there.begins))
