-- What a text holds once the new forms of changes are written.
use Rattle.std.proofs.Common.{◌≡◌, ◌∙◌, ◌+◌, ◌-◌, ◌<◌, ◌≤◌, ◌⊎◌, inl, inr, ℕ, zero, suc, Bool, true, false, cond, List, [], ◌∷◌, ◌++◌, length, All, Option, Some, None, slice_get, refl, sym, ap, subst, arith, true≢false}
use Rattle.std.specs.List.{find}
use Rattle.std.specs.Option.{is_none, unwrap_or}
use Rattle.std.proofs.lemmas.Bool.{cases_lt}
use Rattle.std.proofs.lemmas.List.Elements.{All-head, All-tail}
use Rattle.std.proofs.lemmas.Option.{none-some, same_Some, slice_get_within}
use Rattle.insn_forms.specs.declared.forms.Change.{Change}
use Rattle.insn_forms.specs.declared.forms.Form.{Form}
use Rattle.insn_forms.specs.Spelling.{size, spell}
use Rattle.key_state.specs.Changes.{AreStatesOf, change_at, changes, first_foreign, is_foreign}
use Rattle.key_state.specs.Outcome.{HoldsWanted}
use Rattle.key_state.specs.Writing.{IsInText, change_written, changes_written}
use Rattle.key_state.proofs.Clashing.{foreign_bytes, foreign_missed, patched_found}
use Rattle.key_state.proofs.Differing.{IsChangeOf, Told, WantsSame, all_from, changes_from, told_below}
use Rattle.key_state.proofs.Pieces.{byte_kept, length_put}
use Rattle.key_state.proofs.Poking.{spelt_change, spelt_there}
use Rattle.module_parts.specs.declared.site.Site.{Site}
use Rattle.module_image.specs.Held.{IsBeside}
use Rattle.module_image.specs.Layout.{site_at}
use Rattle.module_image.specs.Lent.{IsLaidOut}
use Rattle.module_image.specs.Module.{IsAccepted, Module, States, wants}
use Rattle.module_image.specs.Sites.{code_at, put_at}
use Rattle.module_image.proofs.Lent.{sites_laid_out}
use Rattle.module_laws.proofs.Spliced.{at_put, beside_put}
use Rattle.poke_batch.specs.Poke.{spelled}

-- while the changes of the sites before one are written, those hold what they want after, and the others what they wanted
pub record IsHalf (m : Module) (old new : States) (n : ℕ) (text : List ℕ) : Type 0 where
  pub same_length : length text ≡ length m.text
  pub done :
      (i : ℕ) (s : Site) (form : Form) → i < n → slice_get m.sites i ≡ Some s → s.foreign ≡ false → wants m new i ≡ Some form
      → spell form s.at ≡ Some (code_at m.base text s.at s.len)
  pub left :
      (i : ℕ) (s : Site) (form : Form) → n ≤ i → slice_get m.sites i ≡ Some s → s.foreign ≡ false → wants m old i ≡ Some form
      → spell form s.at ≡ Some (code_at m.base text s.at s.len)
  pub others :
      (k : ℕ) → ((i : ℕ) (s : Site) → slice_get m.sites i ≡ Some s → s.foreign ≡ false → IsBeside (m.base + k) s)
      → slice_get text k ≡ slice_get m.text k

half_first : (m : Module) (old new : States) (text : List ℕ) → HoldsWanted m old text → IsHalf m old new 0 text
half_first m old new text holds = record {
  same_length = holds.same_length;
  done = λ i s form none here own want. absurd (omega (arith, none));
  left = λ i s form low here own want. holds.patched i s form here own want;
  others = holds.others;
}

half_last : (m : Module) (old new : States) (text : List ℕ) → IsHalf m old new (length m.sites) text → HoldsWanted m new text
half_last m old new text half = record {
  same_length = half.same_length;
  patched = λ i s form here own want. half.done i s form (slice_get_within m.sites i s here) here own want;
  others = half.others;
}

-- a site that wants the same holds it already
kept_step : (m : Module) (old new : States) (n : ℕ) (text : List ℕ) → WantsSame m old new n → IsHalf m old new n text → IsHalf m old new (n + 1) text
kept_step m old new n text same half = record {
  same_length = half.same_length;
  done = λ i s form below here own want.
      elim (cases_lt i n) [
        | inl before ↦ half.done i s form before here own want
        | inr past ↦ (
            let is : i ≡ n = omega (arith, below, past) in
            half.left i s form past here own (ap (wants m old) is ∙ same.before ∙ sym same.later ∙ sym (ap (wants m new) is) ∙ want)
            )
      ];
  left = λ i s form past here own want. half.left i s form (omega (arith, past)) here own want;
  others = half.others;
}

-- the form that a site wants is written there
put_step : (m : Module) (old new : States) (n : ℕ) (text : List ℕ) (s : Site) (form : Form) (code : List ℕ) → IsLaidOut m → slice_get m.sites n ≡ Some s → s.foreign ≡ false → wants m new n ≡ Some form → spell form s.at ≡ Some code → length code ≡ s.len → IsHalf m old new n text → IsHalf m old new (n + 1) (put_at text (s.at - m.base) code)
put_step m old new n text s form code laid here own want spelt long half = record {
  same_length = length_put text code (s.at - m.base) (omega (arith, from, to, long, size_of)) ∙ half.same_length;
  done = λ i u f below there ours wanted.
      elim (cases_lt i n) [
        | inl before ↦ (
            let apart = laid.apart i n u s before there here in
            let low = (laid.inside i u there).from in
            half.done i u f before there ours wanted ∙ ap Some (sym (beside u (inl (omega (arith, apart, low, from)))))
            )
        | inr past ↦ (
            let is : i ≡ n = omega (arith, below, past) in
            let site : s ≡ u = same_Some s u (sym here ∙ ap (λ (k : ℕ). slice_get m.sites k) (sym is) ∙ there) in
            let same : form ≡ f = same_Some form f (sym want ∙ ap (wants m new) (sym is) ∙ wanted) in
            ap (λ (g : Form). spell g u.at) (sym same) ∙ ap (λ (v : Site). spell form v.at) (sym site) ∙ spelt ∙ ap Some (sym (at_put text code (s.at - m.base) s.len start long)) ∙ ap (λ (v : Site). Some (code_at m.base (put_at text (s.at - m.base) code) v.at v.len)) site
            )
      ];
  left = λ i u f past there ours wanted.
      let apart = laid.apart n i s u (omega (arith, past)) here there in
      half.left i u f (omega (arith, past)) there ours wanted ∙ ap Some (sym (beside u (inr (omega (arith, apart, from, long)))));
  others = λ k off. byte_kept text code (s.at - m.base) k start (off_site k (off n s here own)) ∙ half.others k off;
}
  where
    from : m.base ≤ s.at
    from = (laid.inside n s here).from

    to : s.at + s.len ≤ m.base + length m.text
    to = (laid.inside n s here).to

    size_of : length text ≡ length m.text
    size_of = half.same_length

    start : s.at - m.base ≤ length text
    start = omega (arith, from, to, size_of)

    beside : (u : Site) → ((u.at - m.base) + u.len ≤ s.at - m.base) ⊎ ((s.at - m.base) + length code ≤ u.at - m.base) → code_at m.base (put_at text (s.at - m.base) code) u.at u.len ≡ code_at m.base text u.at u.len
    beside u off = beside_put text code (s.at - m.base) (u.at - m.base) u.len start off

    off_site : (k : ℕ) → IsBeside (m.base + k) s → (k < s.at - m.base) ⊎ ((s.at - m.base) + length code ≤ k)
    off_site k (inl before) = inl (omega (arith, before, from))
    off_site k (inr after) = inr (omega (arith, after, from, long))

-- a change whose site isn't foreign
site_ours : (m : Module) (old new : States) (i : ℕ) (c : Change) (is : IsChangeOf m old new i c) → IsLaidOut m → is_foreign m c ≡ false → is.site.foreign ≡ false
site_ours m old new i c is laid found = by is.site.foreign refl
  where
    by : (foreign : Bool) → is.site.foreign ≡ foreign → foreign ≡ false
    by false e = refl
    by true e =
        absurd
        (true≢false (sym (foreign_missed m i is.site laid is.here e) ∙ ap (λ (n : ℕ). is_none (site_at m.sites n)) (sym is.at) ∙ found))

pub site_theirs : (m : Module) (old new : States) (i : ℕ) (c : Change) (is : IsChangeOf m old new i c) → IsLaidOut m → is_foreign m c ≡ true → is.site.foreign ≡ true
site_theirs m old new i c is laid missed = by is.site.foreign refl
  where
    by : (foreign : Bool) → is.site.foreign ≡ foreign → foreign ≡ true
    by true e = refl
    by false e =
        absurd
        (true≢false (sym missed ∙ ap (λ (n : ℕ). is_none (site_at m.sites n)) is.at ∙ patched_found m i is.site laid is.here e))

-- the change of a site is written
changed_step : (m : Module) (old new : States) (n : ℕ) (text : List ℕ) (c : Change) → IsAccepted m → AreStatesOf m new → IsChangeOf m old new n c → is_foreign m c ≡ false → IsHalf m old new n text → IsHalf m old new (n + 1) (change_written m.base c text)
changed_step m old new n text c accepted later is ours half =
    let laid = sites_laid_out m accepted in
    let spelt = spelt_there m new n is.site c.new accepted later is.here is.later in
    let code : spelled c.new c.at ≡ spelt.code = ap (λ (k : ℕ). spelled c.new k) is.at ∙ ap (λ (o : Option (List ℕ)). unwrap_or o []) spelt.spelt in
    let same : change_written m.base c text ≡ put_at text (is.site.at - m.base) spelt.code =
    ap (λ (k : ℕ). put_at text (k - m.base) (spelled c.new c.at)) is.at
    ∙ ap (λ (bytes : List ℕ). put_at text (is.site.at - m.base) bytes) code in
    subst (IsHalf m old new (n + 1)) (sym same)
    (put_step m old new n text is.site c.new spelt.code laid is.here (site_ours m old new n c is laid ours) is.later spelt.spelt spelt.long half)

-- where none is found, the first isn't one, and none is found after it
none_first : {X : Type 0} (p : X → Bool) (x : X) (xs : List X) → find p (x ∷ xs) ≡ None → (p x ≡ false) × (find p xs ≡ None)
none_first {X = X} p x xs none = by (p x) refl none
  where
    by : (test : Bool) → p x ≡ test → cond test (Some x) (find p xs) ≡ None → (p x ≡ false) × (find p xs ≡ None)
    by true e none = absurd (none-some x (sym none))
    by false e none = (e, none)

-- the change of one site, if there is one, and then those of others
first_step : (m : Module) (old new : States) (a : ℕ) (rest : List Change) (j : ℕ) (text : List ℕ) → IsAccepted m → AreStatesOf m new → Told m old new a → find (is_foreign m) (change_at m old new a ++ rest) ≡ None → IsHalf m old new a text → ((bytes : List ℕ) → find (is_foreign m) rest ≡ None → IsHalf m old new (a + 1) bytes → IsHalf m old new j (changes_written m.base rest bytes)) → IsHalf m old new j (changes_written m.base (change_at m old new a ++ rest) text)
first_step m old new a rest j text accepted later (inl (wants_same, is)) none half more =
    subst (λ (cs : List Change). IsHalf m old new j (changes_written m.base (cs ++ rest) text)) (sym is)
    (more text (subst (λ (cs : List Change). find (is_foreign m) (cs ++ rest) ≡ None) is none) (kept_step m old new a text wants_same half))
first_step m old new a rest j text accepted later (inr (c, change, is)) none half more =
    let none_there = none_first (is_foreign m) c rest (subst (λ (cs : List Change). find (is_foreign m) (cs ++ rest) ≡ None) is none) in
    subst (λ (cs : List Change). IsHalf m old new j (changes_written m.base (cs ++ rest) text)) (sym is)
    (more (change_written m.base c text) none_there.1 (changed_step m old new a text c accepted later change none_there.0 half))

-- the changes of k sites from one on are written
all_steps : (m : Module) (old new : States) (a k j : ℕ) (text : List ℕ) → IsAccepted m → AreStatesOf m new → a + k ≡ j → j ≤ length m.sites → find (is_foreign m) (changes_from m old new a k) ≡ None → IsHalf m old new a text → IsHalf m old new j (changes_written m.base (changes_from m old new a k) text)
all_steps m old new a zero j text accepted later same few none half =
    let is : a ≡ j = omega (arith, same) in subst (λ (n : ℕ). IsHalf m old new n text) is half
all_steps m old new a (suc k) j text accepted later same few none half =
    first_step m old new a (changes_from m old new (a + 1) k) j text accepted later (told_below m old new a (omega (arith, same, few))) none half
    (λ bytes none_after next. all_steps m old new (a + 1) k j bytes accepted later (omega (arith, same)) few none_after next)

-- where no changed site is foreign, the text holds what its sites want once the changes are written
pub written_holds : (m : Module) (old new : States) (text : List ℕ) → IsAccepted m → AreStatesOf m new → HoldsWanted m old text → first_foreign m (changes m old new) ≡ None → HoldsWanted m new (changes_written m.base (changes m old new) text)
written_holds m old new text accepted later holds none =
    half_last m old new (changes_written m.base (changes m old new) text)
    (all_steps m old new 0 (length m.sites) (length m.sites) text accepted later (omega arith) (omega arith) none (half_first m old new text holds))

-- the sites of changes lie in a text of the module
in_text : (m : Module) (old new : States) (bytes i : ℕ) (c : Change) → IsAccepted m → AreStatesOf m old → AreStatesOf m new → bytes ≡ length m.text → IsChangeOf m old new i c → IsInText m.base bytes c
in_text m old new bytes i c accepted before later long is =
    let inside = (sites_laid_out m accepted).inside i is.site is.here in
    let from = inside.from in
    let to = inside.to in
    let at = is.at in
    let spelt = spelt_change m old new i c is accepted before later in
    let old_size = spelt.old.size_is in
    let new_size = spelt.new.size_is in
    record {
      from = omega (arith, from, at);
      old_inside = omega (arith, to, at, old_size, long);
      new_inside = omega (arith, to, at, new_size, long);
    }

pub all_in_text : (m : Module) (old new : States) (bytes : ℕ) → IsAccepted m → AreStatesOf m old → AreStatesOf m new → bytes ≡ length m.text → All (IsInText m.base bytes) (changes m old new)
all_in_text m old new bytes accepted before later long =
    all_from (IsInText m.base bytes) m old new 0 (length m.sites) (omega arith)
    (λ i c low is. in_text m old new bytes i c accepted before later long is)

-- what is known of a change that is found to be of a foreign site: it lies in the text, which holds there what the module has
pub record IsForeignIn (m : Module) (text : List ℕ) (c : Change) : Type 0 where
  pub inside : IsInText m.base (length text) c
  pub kept : is_foreign m c ≡ true → code_at m.base text c.at (size c.old) ≡ code_at m.base m.text c.at (size c.old)

foreign_in : (m : Module) (old new : States) (text : List ℕ) (i : ℕ) (c : Change) → IsAccepted m → AreStatesOf m old → AreStatesOf m new → HoldsWanted m old text → IsChangeOf m old new i c → IsForeignIn m text c
foreign_in m old new text i c accepted before later holds is =
    let laid = sites_laid_out m accepted in
    let long = (spelt_there m old i is.site c.old accepted before is.here is.before).size_is in
    let there : (bytes : List ℕ) → code_at m.base bytes c.at (size c.old) ≡ code_at m.base bytes is.site.at is.site.len = λ bytes. ap (λ (n : ℕ). code_at m.base bytes n (size c.old)) is.at ∙ ap (λ (n : ℕ). code_at m.base bytes is.site.at n) long in
    record {
      inside = in_text m old new (length text) i c accepted before later holds.same_length is;
      kept = λ missed. there text ∙ foreign_bytes m old text i is.site laid holds is.here (site_theirs m old new i c is laid missed) ∙ sym (there m.text);
    }

-- what is found has the property, and all that the others have
found_has : {X : Type 0} (P : X → Type 0) (p : X → Bool) (xs : List X) (y : X) → All P xs → find p xs ≡ Some y → (p y ≡ true) × P y
found_has P p [] y all found = absurd (none-some y found)
found_has {X = X} P p (x ∷ xs) y all found = by (λ found. found_has P p xs y (All-tail P x xs all) found) (p x) refl found
  where
    by : (find p xs ≡ Some y → (p y ≡ true) × P y) → (test : Bool) → p x ≡ test → cond test (Some x) (find p xs) ≡ Some y → (p y ≡ true) × P y
    by rest true e found = (let same : x ≡ y = same_Some x y found in (ap p (sym same) ∙ e, subst P same (All-head P x xs all)))
    by rest false e found = rest found

-- the first change of a foreign site lies in the text, which holds there what the module has
pub record IsFoundIn (m : Module) (text : List ℕ) (c : Change) : Type 0 where
  pub inside : IsInText m.base (length text) c
  pub kept : code_at m.base text c.at (size c.old) ≡ code_at m.base m.text c.at (size c.old)

pub found_in : (m : Module) (old new : States) (text : List ℕ) (c : Change) → IsAccepted m → AreStatesOf m old → AreStatesOf m new → HoldsWanted m old text → first_foreign m (changes m old new) ≡ Some c → IsFoundIn m text c
found_in m old new text c accepted before later holds first =
    let found = found_has (IsForeignIn m text) (is_foreign m) (changes m old new) c
    (all_from (IsForeignIn m text) m old new 0 (length m.sites) (omega arith) (λ i d low is. foreign_in m old new text i d accepted before later holds is)) first in
    record { inside = found.1.inside; kept = found.1.kept found.0 }
