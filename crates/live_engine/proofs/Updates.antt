-- What an update makes of the forms of a live plan's sites.
use Rattle.std.proofs.Common.{◌≡◌, ◌⊎◌, inl, inr, ◌∙◌, ◌+◌, ◌<◌, ◌≤◌, ℕ, zero, suc, Bool, true, false, cond, List, [], ◌∷◌, ◌++◌, length, All, AllPairs, Option, Some, None, Result, Ok, Err, slice_get, refl, sym, ap, subst, arith, append-nil, true≢false}
use Rattle.std.specs.List.{Contains, find, flat_map, range_with_len}
use Rattle.std.specs.Option.{is_none}
use Rattle.std.proofs.lemmas.Bool.{cases_eq, cases_order}
use Rattle.std.proofs.lemmas.List.Elements.{All-cons, All-nil}
use Rattle.std.proofs.lemmas.Option.{none-some, same_Some, slice_get_within}
use Rattle.insn_forms.specs.declared.forms.Change.{Change}
use Rattle.insn_forms.specs.declared.forms.Form.{Form}
use Rattle.insn_forms.proofs.Spellings.{size_pos}
use Rattle.key_state.specs.declared.count.CountRefused.{CountRefused}
use Rattle.key_state.specs.After.{after}
use Rattle.key_state.specs.Changes.{AreStatesOf, change_at, changes, first_foreign, is_foreign}
use Rattle.key_state.specs.Outcome.{kept_at, made_at, made_by, made_to, settled, settled_to}
use Rattle.key_state.proofs.Clashing.{foreign_missed}
use Rattle.key_state.proofs.Differing.{IsChangeOf, Told, all_from, few_changes, form_of, pairs_from, told, wants_form}
use Rattle.key_state.proofs.Keeping.{commands_keep}
use Rattle.key_state.proofs.Poking.{ascend, patchable}
use Rattle.live_text.specs.declared.plan.LiveSite.{LiveSite}
use Rattle.live_text.specs.Plan.{IsChange, form_after}
use Rattle.module_parts.specs.declared.command.Command.{Command}
use Rattle.module_parts.specs.declared.site.Site.{Site}
use Rattle.module_image.specs.Command.{IsCommandOf}
use Rattle.module_image.specs.Layout.{site_at}
use Rattle.module_image.specs.Lent.{IsLaidOut}
use Rattle.module_image.specs.Module.{IsAccepted, Module, States, wants}
use Rattle.module_image.proofs.Lent.{sites_laid_out}
use Rattle.poke_batch.specs.Poke.{chunks}
use Rattle.poke_batch.proofs.Chunks.{chunks_of}
use Rattle.live_engine.specs.LivePlan.{IsWanted}
use Rattle.live_engine.proofs.FormsAfter.{Below, Give, Meets, form-append, form-given, joined, meets-left, meets-right}

-- ---- the forms that sites have

-- a site of a plan stands at an address, and has the form that is wanted there after some chunks
pub record HasForm (sites : List LiveSite) (earlier : List (List Change)) (at : ℕ) (wanted : Option Form) : Type 0 where
  pub live : LiveSite
  pub listed : Contains sites live
  pub there : live.at ≡ at
  pub form : wanted ≡ Some (form_after earlier at live.start)

-- after some chunks each patched site has the form that it wants
abbrev pub Track : Module → List LiveSite → States → List (List Change) → Type 0
Track m sites states earlier =
    (i : ℕ) (s : Site) → slice_get m.sites i ≡ Some s → s.foreign ≡ false → HasForm sites earlier s.at (wants m states i)

-- ---- numbers of sites

-- two sites that begin at one address have one number
pub one-number : (m : Module) (i j : ℕ) (s u : Site) → IsLaidOut m → slice_get m.sites i ≡ Some s → slice_get m.sites j ≡ Some u → u.at ≡ s.at → j ≡ i
one-number m i j s u laid here there same =
    let s_len = (laid.inside i s here).two_or_five in
    let u_len = (laid.inside j u there).two_or_five in
    elim (cases_order j i) [
      | inl is ↦ is
      | inr other ↦ elim other [
        | inl before ↦ (let ends = laid.apart j i u s before there here in absurd (omega (arith, ends, u_len, same)))
        | inr after ↦ (let ends = laid.apart i j s u after here there in absurd (omega (arith, ends, s_len, same)))
      ]
    ]

-- the site of a change that isn't foreign is patched
site-ours : (m : Module) (old new : States) (i : ℕ) (c : Change) (is : IsChangeOf m old new i c) → IsLaidOut m → is_foreign m c ≡ false → is.site.foreign ≡ false
site-ours m old new i c is laid found = by is.site.foreign refl
  where
    by : (foreign : Bool) → is.site.foreign ≡ foreign → foreign ≡ false
    by false e = refl
    by true e =
        absurd
        (true≢false (sym (foreign_missed m i is.site laid is.here e) ∙ ap (λ (n : ℕ). is_none (site_at m.sites n)) (sym is.at) ∙ found))

-- what isn't found isn't there
none-found : {X : Type 0} (p : X → Bool) (xs : List X) → find p xs ≡ None → All (λ (x : X). p x ≡ false) xs
none-found {X = X} p [] none = All-nil (λ (x : X). p x ≡ false)
none-found {X = X} p (x ∷ xs) none = by (λ later. none-found p xs later) (p x) refl none
  where
    by : (find p xs ≡ None → All (λ (y : X). p y ≡ false) xs) → (test : Bool) → p x ≡ test → cond test (Some x) (find p xs) ≡ None → All (λ (y : X). p y ≡ false) (x ∷ xs)
    by rest true e none = absurd (none-some x (sym none))
    by rest false e none = All-cons (λ (y : X). p y ≡ false) x xs e (rest none)

-- ---- the changes of an update

-- each of them is a change of the plan after the chunks before
change-stands : (m : Module) (sites : List LiveSite) (old new : States) (earlier : List (List Change)) (i : ℕ) (c : Change) → IsAccepted m → AreStatesOf m old → AreStatesOf m new → Track m sites old earlier → IsChangeOf m old new i c → is_foreign m c ≡ false → IsChange sites earlier c
change-stands m sites old new earlier i c accepted before later track is ours =
    let has = track i is.site is.here (site-ours m old new i c is (sites_laid_out m accepted) ours) in
    let can = patchable m old new m.text i c accepted before later refl is in
    let form : c.old ≡ form_after earlier is.site.at has.live.start = same_Some c.old (form_after earlier is.site.at has.live.start) (sym is.before ∙ has.form) in
    record {
      site = has.live;
      listed = has.listed;
      there = has.there ∙ sym is.at;
      old_is = form ∙ ap (λ (at : ℕ). form_after earlier at has.live.start) (sym is.at);
      one_size = can.one_size;
      old_spelt = can.old_spelt;
      new_spelt = can.new_spelt;
    }

-- its new form is one that its site wants
change-wanted : (m : Module) (old new : States) (i : ℕ) (c : Change) → IsAccepted m → AreStatesOf m new → IsChangeOf m old new i c → is_foreign m c ≡ false → IsWanted m c.at c.new
change-wanted m old new i c accepted later is ours = record {
  states = new;
  leads = later.leads;
  site = i;
  there = record {
    below = slice_get_within m.sites i is.site is.here;
    site = is.site;
    here = is.here;
    begins = sym is.at;
    ours = site-ours m old new i c is (sites_laid_out m accepted) ours;
  };
  wanted = is.later;
}

-- an item of one of some numbers is among all
meets-from : (f : ℕ → List Change) (at i a n : ℕ) → a ≤ i → i < a + n → Meets at (f i) → Meets at (flat_map f (range_with_len a n))
meets-from f at i a zero low high meets = absurd (omega (arith, low, high))
meets-from f at i a (suc n) low high meets =
    elim (cases_eq a i) [
      | inl here ↦ meets-left at (f a) (flat_map f (range_with_len (a + 1) n)) (subst (λ (k : ℕ). Meets at (f k)) (sym here) meets)
      | inr other ↦ meets-right at (f a) (flat_map f (range_with_len (a + 1) n)) (meets-from f at i (a + 1) n (higher low other) (omega (arith, high)) meets)
    ]
  where
    higher : a ≤ i → (a ≡ i → ⊥) → a + 1 ≤ i
    higher low other = elim (cases_order a i) [
      | inl same ↦ absurd (other same)
      | inr apart ↦ elim apart [ inl below ↦ omega (arith, below) | inr above ↦ absurd (omega (arith, low, above)) ]
    ]

-- each change at a site's address gives the form that the site wants after it
gives-wanted : (m : Module) (old new : States) (i : ℕ) (s : Site) (form : Form) → IsLaidOut m → slice_get m.sites i ≡ Some s → wants m new i ≡ Some form → Give s.at form (changes m old new)
gives-wanted m old new i s form laid here want =
    all_from (λ (c : Change). c.at ≡ s.at → c.new ≡ form) m old new 0 (length m.sites) (omega arith)
    (λ j c low is same.
    let number : j ≡ i = one-number m i j s is.site laid here is.here (sym is.at ∙ same) in
    same_Some c.new form (sym is.later ∙ ap (wants m new) number ∙ want))

-- a site has the form that it wants after it already, or is changed
has-or-meets : (m : Module) (old new : States) (i : ℕ) (s : Site) (had form : Form) → slice_get m.sites i ≡ Some s → wants m old i ≡ Some had → wants m new i ≡ Some form → Told m old new i → (had ≡ form) ⊎ Meets s.at (changes m old new)
has-or-meets m old new i s had form here wanted want (inl (same, none)) =
    inl (same_Some had form (sym wanted ∙ same.before ∙ sym same.later ∙ want))
has-or-meets m old new i s had form here wanted want (inr (c, is, one)) =
    let site : is.site ≡ s = same_Some is.site s (sym is.here ∙ here) in
    let there : c.at ≡ s.at = is.at ∙ ap (λ (x : Site). x.at) site in
    let meets : Meets s.at (change_at m old new i) = subst (λ (cs : List Change). Meets s.at cs) (sym one) (inl there) in
    inr (meets-from (change_at m old new) s.at i 0 (length m.sites) (omega arith) (omega (arith, slice_get_within m.sites i s here)) meets)

-- after its chunks each patched site has the form that it wants then
track-more : (m : Module) (sites : List LiveSite) (old new : States) (earlier : List (List Change)) → IsLaidOut m → Track m sites old earlier → Track m sites new (earlier ++ chunks (changes m old new))
track-more m sites old new earlier laid track i s here ours =
    let has = track i s here ours in
    let made = changes m old new in
    let form = form_of m new i s in
    let want : wants m new i ≡ Some form = wants_form m new i s here in
    let all : joined (chunks made) ≡ made = (chunks_of made).joined in
    let give : Give s.at form (joined (chunks made)) = subst (λ (cs : List Change). Give s.at form cs) (sym all) (gives-wanted m old new i s form laid here want) in
    let had : (form_after earlier s.at has.live.start ≡ form) ⊎ Meets s.at (joined (chunks made)) = subst (λ (cs : List Change). (form_after earlier s.at has.live.start ≡ form) ⊎ Meets s.at cs) (sym all) (has-or-meets m old new i s (form_after earlier s.at has.live.start) form here has.form want (told m old new i s here)) in
    record {
      live = has.live;
      listed = has.listed;
      there = has.there;
      form =
          want
          ∙ ap Some
          (sym
          (
          form-append earlier (chunks made) s.at has.live.start
          ∙ form-given (chunks made) s.at (form_after earlier s.at has.live.start) form give had
          ));
    }

-- ---- the update of a command

-- what an update makes after the chunks of those before it
pub record IsMade (m : Module) (sites : List LiveSite) (new : States) (earlier : List (List Change)) (made : List Change) : Type 0 where
  pub of : AreStatesOf m new
  pub changes : All (IsChange sites earlier) made
  pub wanted : All (λ (c : Change). IsWanted m c.at c.new) made
  pub ascend : AllPairs Below made
  pub few : length made ≤ 1024
  pub track : Track m sites new (earlier ++ chunks made)

-- nothing is made where it is refused or clashes
none-made : (m : Module) (sites : List LiveSite) (states : States) (earlier : List (List Change)) → AreStatesOf m states → Track m sites states earlier → IsMade m sites states earlier []
none-made m sites states earlier of track = record {
  of = of;
  changes = All-nil (IsChange sites earlier);
  wanted = All-nil (λ (c : Change). IsWanted m c.at c.new);
  ascend = λ i j d lt below. absurd (omega (arith, below));
  few = omega arith;
  track = subst (λ (before : List (List Change)). Track m sites states before) (sym (append-nil earlier)) track;
}

-- else the changes between the two states
done-made : (m : Module) (sites : List LiveSite) (old new : States) (earlier : List (List Change)) → IsAccepted m → AreStatesOf m old → AreStatesOf m new → first_foreign m (changes m old new) ≡ None → Track m sites old earlier → IsMade m sites new earlier (changes m old new)
done-made m sites old new earlier accepted before later none track =
    let laid = sites_laid_out m accepted in
    let ours = none-found (is_foreign m) (changes m old new) none in
    let stand : All (λ (c : Change). is_foreign m c ≡ false → IsChange sites earlier c) (changes m old new) = all_from (λ (c : Change). is_foreign m c ≡ false → IsChange sites earlier c) m old new 0 (length m.sites) (omega arith) (λ i c low is own. change-stands m sites old new earlier i c accepted before later track is own) in
    let wanted : All (λ (c : Change). is_foreign m c ≡ false → IsWanted m c.at c.new) (changes m old new) = all_from (λ (c : Change). is_foreign m c ≡ false → IsWanted m c.at c.new) m old new 0 (length m.sites) (omega arith) (λ i c low is own. change-wanted m old new i c accepted later is own) in
    let most = few_changes m old new (length m.sites) (omega arith) in
    let sites_few = laid.few in
    record {
      of = later;
      changes = λ k d below. stand k d below (ours k d below);
      wanted = λ k d below. wanted k d below (ours k d below);
      ascend = pairs_from Below m old new 0 (length m.sites) (omega arith)
          (λ i j c d low after first second.
          let ends = ascend m old new i j c d accepted before first second after in
          omega (arith, ends, size_pos c.old));
      few = omega (arith, most, sites_few);
      track = track-more m sites old new earlier laid track;
    }

-- by the first change that is foreign
made-at : (m : Module) (sites : List LiveSite) (old new : States) (earlier : List (List Change)) (first : Option Change) → IsAccepted m → AreStatesOf m old → AreStatesOf m new → first_foreign m (changes m old new) ≡ first → Track m sites old earlier → IsMade m sites (kept_at old new first) earlier (made_at (changes m old new) first)
made-at m sites old new earlier None accepted before later none track =
    done-made m sites old new earlier accepted before later none track
made-at m sites old new earlier (Some c) accepted before later some track = none-made m sites old earlier before track

-- by what the key's count allows
made-to : (m : Module) (sites : List LiveSite) (old : States) (earlier : List (List Change)) (result : Result States CountRefused) → IsAccepted m → AreStatesOf m old → ((new : States) → result ≡ Ok new → AreStatesOf m new) → Track m sites old earlier → IsMade m sites (settled_to m old result) earlier (made_to m old result)
made-to m sites old earlier (Err why) accepted before keeps track = none-made m sites old earlier before track
made-to m sites old earlier (Ok new) accepted before keeps track =
    made-at m sites old new earlier (first_foreign m (changes m old new)) accepted before (keeps new refl) refl track

pub update-made : (m : Module) (sites : List LiveSite) (states : States) (earlier : List (List Change)) (command : Command) → IsAccepted m → AreStatesOf m states → IsCommandOf m command → Track m sites states earlier → IsMade m sites (settled m states command) earlier (made_by m states command)
update-made m sites states earlier command accepted before known track =
    made-to m sites states earlier (after states command) accepted before
    (λ new done. commands_keep m states new command accepted before known done) track
