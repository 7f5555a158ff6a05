-- A text of which the bytes are told by address, and the same text as a list; and which changes of it clash.
use Rattle.std.proofs.Common.{◌≡◌, ◌∙◌, ◌+◌, ◌-◌, ◌<◌, ◌≤◌, ◌⊎◌, inl, inr, ℕ, Bool, true, false, cond, List, [], ◌∷◌, length, map, drop, get_or, Contains, find, Option, Some, None, option_map, nat_lt, slice_get, slice_index, refl, sym, ap, subst, arith, get_or-take, get_or-drop, length-take, length-drop, lt-ltb}
use Rattle.std.specs.List.{range_with_len}
use Rattle.std.specs.Option.{is_none, unwrap_or}
use Rattle.std.proofs.lemmas.Bool.{cases_lt}
use Rattle.std.proofs.lemmas.List.{ext_get_or}
use Rattle.std.proofs.lemmas.List.FromFn.{get_or-map-range_with_len, length-map-range_with_len}
use Rattle.std.proofs.lemmas.Option.{same_Some, slice_get-get_or, slice_get_past, unwrap_or-slice_get}
use Rattle.insn_forms.specs.declared.forms.Change.{Change}
use Rattle.insn_forms.specs.declared.forms.Form.{Form}
use Rattle.insn_forms.specs.History.{text_byte, written}
use Rattle.insn_forms.specs.Spelling.{size, spell}
use Rattle.insn_forms.specs.Write.{Write}
use Rattle.poke_batch.specs.Clash.{first_clash, held_bytes}
use Rattle.poke_batch.specs.Poke.{spelled}
use Rattle.key_state.specs.Changes.{AreStatesOf, changes, first_foreign, is_foreign}
use Rattle.key_state.specs.Outcome.{Clashes, HoldsWanted}
use Rattle.key_state.proofs.Clashing.{clashes_foreign, foreign_bytes}
use Rattle.key_state.proofs.Pieces.{byte_there, held_piece}
use Rattle.key_state.proofs.Poking.{spelt_there}
use Rattle.module_parts.specs.declared.site.Site.{Site}
use Rattle.module_image.specs.Held as held
use Rattle.module_image.specs.Layout.{site_at}
use Rattle.module_image.specs.Module.{IsAccepted, Module, States, wants}
use Rattle.module_image.specs.Sites.{code_at}
use Rattle.module_image.proofs.Lent.{sites_laid_out}
use Rattle.switching.specs.Beginning.{clash_of_bytes, clash_of_foreign}
use Rattle.switching.specs.State.{held_after, start}
use Rattle.switching.specs.Switching.{wanted_at}
use Rattle.switching.proofs.Changed.{changed_at}
use Rattle.switching.proofs.Invariant.{IsText}
use Rattle.switching.proofs.Lookups.{first_in, later_in, none_in}
use Rattle.switching.proofs.Patched.{site_found, wanted_is, wanted_there}

pub same_function : {A B : Type 0} (f g : A → B) → ((x : A) → f x ≡ g x) → f ≡ g
same_function f g each = λ i x. each x i

-- the text after some writes, as a list
abbrev pub held_list : Module → List Write → List ℕ
held_list m ws = map (λ i. written ws (start m) (m.base + i)) (range_with_len 0 (length m.text))

pub held_length : (m : Module) (ws : List Write) → length (held_list m ws) ≡ length m.text
held_length m ws = length-map-range_with_len (λ i. written ws (start m) (m.base + i)) 0 (length m.text)

pub held_at : (m : Module) (ws : List Write) (k d : ℕ) → k < length m.text → get_or (held_list m ws) k d ≡ written ws (start m) (m.base + k)
held_at m ws k d below = get_or-map-range_with_len (λ i. written ws (start m) (m.base + i)) 0 (length m.text) k k d below (omega arith)

held_get : (m : Module) (ws : List Write) (k : ℕ) → k < length m.text → slice_get (held_list m ws) k ≡ Some (written ws (start m) (m.base + k))
held_get m ws k below =
    let long = held_length m ws in
    slice_get-get_or (held_list m ws) k 0 (omega (arith, long, below)) ∙ ap Some (held_at m ws k 0 below)

-- a byte of the text as it is accepted
start_at : (m : Module) (k : ℕ) → start m (m.base + k) ≡ get_or m.text k 0
start_at m k =
    let back : m.base + k - m.base ≡ k = omega arith in
    ap (λ (o : Option ℕ). unwrap_or o 0) (byte_there m.base m.text (m.base + k) (omega arith))
    ∙ ap (λ (i : ℕ). unwrap_or (slice_get m.text i) 0) back ∙ unwrap_or-slice_get m.text k 0

-- both read the same
pub same_held : (m : Module) (ws : List Write) → held_after m ws ≡ text_byte m.base (held_list m ws)
same_held m ws = same_function (held_after m ws) (text_byte m.base (held_list m ws)) each
  where
    long : length (held_list m ws) ≡ length m.text
    long = held_length m ws

    inside : (at : ℕ) → m.base ≤ at → (at - m.base < length m.text) ⊎ (length m.text ≤ at - m.base) → option_map (λ (old : ℕ). written ws (start m) at) (slice_get m.text (at - m.base)) ≡ slice_get (held_list m ws) (at - m.base)
    inside at from (inl below) =
        let back : m.base + (at - m.base) ≡ at = omega (arith, from) in
        ap (λ (o : Option ℕ). option_map (λ (old : ℕ). written ws (start m) at) o) (slice_get-get_or m.text (at - m.base) 0 below)
        ∙ ap (λ (a : ℕ). Some (written ws (start m) a)) (sym back) ∙ sym (held_get m ws (at - m.base) below)
    inside at from (inr past) =
        ap (λ (o : Option ℕ). option_map (λ (old : ℕ). written ws (start m) at) o) (slice_get_past m.text (at - m.base) past)
        ∙ sym (slice_get_past (held_list m ws) (at - m.base) (let l = long in omega (arith, l, past)))

    by : (at : ℕ) → (before : Bool) → nat_lt at m.base ≡ before → option_map (λ (old : ℕ). written ws (start m) at) (cond before None (slice_get m.text (at - m.base))) ≡ cond before None (slice_get (held_list m ws) (at - m.base))
    by at true e = refl
    by at false e = inside at (from (cases_lt at m.base)) (cases_lt (at - m.base) (length m.text))
      where
        from : (at < m.base) ⊎ (m.base ≤ at) → m.base ≤ at
        from (inl less) = (let clash : nat_lt at m.base ≡ true = lt-ltb at m.base less in absurd (cc))
        from (inr more) = more

    each : (at : ℕ) → held_after m ws at ≡ text_byte m.base (held_list m ws) at
    each at = by at (nat_lt at m.base) refl

-- bytes of a piece of a text
piece_at : (base : ℕ) (text : List ℕ) (at len j : ℕ) → j < len → slice_index (code_at base text at len) j ≡ get_or text (at - base + j) 0
piece_at base text at len j below =
    get_or-take len (drop (at - base) text) j 0 below ∙ get_or-drop (at - base) text j 0

-- a text in which each patched site holds what it wants
pub holds_of : (m : Module) (states : States) (ws : List Write) → IsAccepted m → AreStatesOf m states → IsText m (wanted_at m states) [] (written ws (start m)) → HoldsWanted m states (held_list m ws)
holds_of m states ws accepted now text = record { same_length = held_length m ws; patched = patched; others = others }
  where
    patched : (i : ℕ) (s : Site) (form : Form) → slice_get m.sites i ≡ Some s → s.foreign ≡ false → wants m states i ≡ Some form → spell form s.at ≡ Some (code_at m.base (held_list m ws) s.at s.len)
    patched i s form here ours want =
        let spelt = spelt_there m states i s form accepted now here want in
        let inside = (sites_laid_out m accepted).inside i s here in
        let from = inside.from in
        let to = inside.to in
        let long = held_length m ws in
        let is = wanted_is m states s.at i s form here (site_found m i s accepted here ours) want in
        let code_is : spelled form s.at ≡ spelt.code = ap (λ (o : Option (List ℕ)). unwrap_or o []) spelt.spelt in
        let code_long = spelt.long in
        let same : spelt.code ≡ code_at m.base (held_list m ws) s.at s.len =
        ext_get_or 0 spelt.code (code_at m.base (held_list m ws) s.at s.len)
        (code_long ∙ (let taken = length-take s.len (drop (s.at - m.base) (held_list m ws)) in let dropped = length-drop (s.at - m.base) (held_list m ws) in omega (arith, taken, dropped, from, to, long)))
        (λ j below.
        let at_there : m.base + (s.at - m.base + j) ≡ s.at + j = omega (arith, from) in
        ap (λ (bs : List ℕ). slice_index bs j) (sym code_is)
        ∙ ap (λ (f : Form). slice_index (spelled f s.at) j) (sym is)
        ∙ sym (text.sites i s j here ours (λ k has. absurd (none_in k has)) (omega (arith, below, code_long)))
        ∙ ap (λ (a : ℕ). written ws (start m) a) (sym at_there)
        ∙ sym (held_at m ws (s.at - m.base + j) 0 (omega (arith, below, code_long, from, to)))
        ∙ sym (piece_at m.base (held_list m ws) s.at s.len j (omega (arith, below, code_long)))) in
        spelt.spelt ∙ ap (λ (bs : List ℕ). Some bs) same

    others : (k : ℕ) → ((i : ℕ) (s : Site) → slice_get m.sites i ≡ Some s → s.foreign ≡ false → held.IsBeside (m.base + k) s) → slice_get (held_list m ws) k ≡ slice_get m.text k
    others k free = by (cases_lt k (length m.text))
      where
        by : (k < length m.text) ⊎ (length m.text ≤ k) → slice_get (held_list m ws) k ≡ slice_get m.text k
        by (inl below) =
            held_get m ws k below ∙ ap Some (text.rest (m.base + k) free ∙ start_at m k) ∙ sym (slice_get-get_or m.text k 0 below)
        by (inr past) =
            let long = held_length m ws in
            slice_get_past (held_list m ws) k (omega (arith, long, past)) ∙ sym (slice_get_past m.text k past)

-- the accepted text is one
pub text_of_holds : (m : Module) (states : States) → IsAccepted m → AreStatesOf m states → HoldsWanted m states m.text → IsText m (wanted_at m states) [] (start m)
text_of_holds m states accepted now holds = record {
  sites = λ n s j here ours none below.
      let found = site_found m n s accepted here ours in
      let want = (wanted_there m states s.at n accepted now found).want in
      let inside = (sites_laid_out m accepted).inside n s here in
      let from = inside.from in
      let back : m.base + (s.at - m.base + j) ≡ s.at + j = omega (arith, from) in
      ap (λ (a : ℕ). start m a) (sym back) ∙ start_at m (s.at - m.base + j)
      ∙ sym (piece_at m.base m.text s.at s.len j below)
      ∙ ap (λ (o : Option (List ℕ)). slice_index (unwrap_or o []) j) (sym (holds.patched n s (wanted_at m states s.at) here ours want));
  rest = λ at free. refl;
}

-- ---- clashes

-- the first element that passes is one, and passes
pub some_passes : {X : Type 0} (test : X → Bool) (xs : List X) (x : X) → find test xs ≡ Some x → Contains xs x × (test x ≡ true)
some_passes test [] x is = cc
some_passes {X = X} test (y ∷ ys) x is = by (test y) refl is (some_passes test ys x)
  where
    by : (passes : Bool) → test y ≡ passes → cond passes (Some y) (find test ys) ≡ Some x → (find test ys ≡ Some x → Contains ys x × (test x ≡ true)) → Contains (y ∷ ys) x × (test x ≡ true)
    by true e is rest = (let same : y ≡ x = same_Some y x is in (subst (λ (z : X). Contains (y ∷ ys) z) same (first_in y ys), ap test (sym same) ∙ e))
    by false e is rest = (let found = rest is in (later_in y x ys found.0, found.1))

-- a site at whose address no patched site begins is foreign
foreign_site : (m : Module) (i : ℕ) (s : Site) (at : ℕ) → IsAccepted m → slice_get m.sites i ≡ Some s → s.at ≡ at → is_none (site_at m.sites at) ≡ true → (foreign : Bool) → s.foreign ≡ foreign → s.foreign ≡ true
foreign_site m i s at accepted here begins none true e = e
foreign_site m i s at accepted here begins none false e =
    let found : is_none (site_at m.sites at) ≡ false = ap (λ (a : ℕ). is_none (site_at m.sites a)) (sym begins) ∙ ap (λ (o : Option ℕ). is_none o) (site_found m i s accepted here e) in
    absurd (cc)

module _ (m : Module) (before later : States) (ws : List Write) (accepted : IsAccepted m) (before_of : AreStatesOf m before) (later_of : AreStatesOf m later) (text : IsText m (wanted_at m before) [] (written ws (start m))) where
  -- the first change that clashes is the first of a foreign site
  pub first_clash_is : first_clash (held_after m ws) (changes m before later) ≡ first_foreign m (changes m before later)
  first_clash_is =
      ap (λ (f : ℕ → Option ℕ). first_clash f (changes m before later)) (same_held m ws)
      ∙ clashes_foreign m before later (held_list m ws) accepted before_of later_of (holds_of m before ws accepted before_of text)

  -- it holds what the module has there
  foreign_held : (c : Change) → first_foreign m (changes m before later) ≡ Some c → held_bytes (held_after m ws) c.at (size c.old) ≡ code_at m.base m.text c.at (size c.old)
  foreign_held c first =
      let found = some_passes (is_foreign m) (changes m before later) c first in
      let told = changed_at m before later c found.0 in
      let change = told.1.change in
      let s = change.site in
      let inside = (sites_laid_out m accepted).inside told.0 s change.here in
      let from = inside.from in
      let to = inside.to in
      let long = held_length m ws in
      let at = change.at in
      let size_is = (spelt_there m before told.0 s c.old accepted before_of change.here change.before).size_is in
      ap (λ (f : ℕ → Option ℕ). held_bytes f c.at (size c.old)) (same_held m ws)
      ∙ held_piece m.base (held_list m ws) c.at (size c.old) (omega (arith, from, at)) (omega (arith, to, at, size_is, long))
      ∙ ap (λ (a : ℕ). code_at m.base (held_list m ws) a (size c.old)) at
      ∙ ap (λ (n : ℕ). code_at m.base (held_list m ws) s.at n) size_is
      ∙ foreign_bytes m before (held_list m ws) told.0 s (sites_laid_out m accepted) (holds_of m before ws accepted before_of text) change.here (foreign_site m told.0 s c.at accepted change.here (sym at) found.1 s.foreign refl)
      ∙ ap (λ (n : ℕ). code_at m.base m.text s.at n) (sym size_is)
      ∙ ap (λ (a : ℕ). code_at m.base m.text a (size c.old)) (sym at)

  -- so both machines find the same clash
  pub clash_is : clash_of_bytes (held_after m ws) (changes m before later) ≡ clash_of_foreign m (changes m before later)
  clash_is = by (first_foreign m (changes m before later)) refl
    where
      by : (o : Option Change) → first_foreign m (changes m before later) ≡ o → clash_of_bytes (held_after m ws) (changes m before later) ≡ clash_of_foreign m (changes m before later)
      by None is =
          ap (λ (o : Option Change). option_map (λ (c : Change). Clashes c.at (held_bytes (held_after m ws) c.at (size c.old)) (spelled c.old c.at)) o) (first_clash_is ∙ is)
          ∙ ap (λ (o : Option Change). option_map (λ (c : Change). Clashes c.at (code_at m.base m.text c.at (size c.old)) (spelled c.old c.at)) o) (sym is)
      by (Some c) is =
          ap (λ (o : Option Change). option_map (λ (c : Change). Clashes c.at (held_bytes (held_after m ws) c.at (size c.old)) (spelled c.old c.at)) o) (first_clash_is ∙ is)
          ∙ ap (λ (bs : List ℕ). Some (Clashes c.at bs (spelled c.old c.at))) (foreign_held c is)
          ∙ ap (λ (o : Option Change). option_map (λ (c : Change). Clashes c.at (code_at m.base m.text c.at (size c.old)) (spelled c.old c.at)) o) (sym is)
