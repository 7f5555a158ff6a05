-- Where patched sites hold what they want, a change clashes exactly where its site is foreign.
use Rattle.std.proofs.Common.{◌≡◌, ◌∙◌, ◌+◌, ◌-◌, ◌<◌, ◌≤◌, inl, inr, ℕ, Bool, true, false, cond, not, List, [], ◌∷◌, length, All, Option, Some, None, slice_get, refl, sym, ap, arith, true≢false}
use Rattle.std.specs.List.{find}
use Rattle.std.specs.Option.{is_none, unwrap_or}
use Rattle.std.proofs.lemmas.Bool.{cases_order}
use Rattle.std.proofs.lemmas.List.Elements.{All-head, All-tail}
use Rattle.std.proofs.lemmas.Option.{same_Some}
use Rattle.std.proofs.lemmas.Slice.Eq.{bytes_eq-Decides}
use Rattle.insn_forms.specs.declared.forms.Change.{Change}
use Rattle.insn_forms.specs.History.{text_byte}
use Rattle.insn_forms.specs.Spelling.{size, spell}
use Rattle.key_state.specs.Changes.{AreStatesOf, changes, is_foreign}
use Rattle.key_state.specs.Laws.{ClashesAreForeign}
use Rattle.key_state.specs.Outcome.{HoldsWanted}
use Rattle.key_state.proofs.Differing.{IsChangeOf, all_from}
use Rattle.key_state.proofs.Pieces.{held_piece, same_piece}
use Rattle.key_state.proofs.Poking.{spelt_there}
use Rattle.module_parts.specs.declared.site.Site.{Site}
use Rattle.module_image.specs.Held.{IsBeside}
use Rattle.module_image.specs.Layout.{site_at}
use Rattle.module_image.specs.Lent.{IsLaidOut}
use Rattle.module_image.specs.Module.{IsAccepted, Module, States, layout_of}
use Rattle.module_image.specs.Sites.{code_at}
use Rattle.module_laws.proofs.HeldForms.{foreign_hold, foreign_off}
use Rattle.module_image.proofs.Lent.{sites_laid_out}
use Rattle.module_image.proofs.UnitLaws.{site_is, site_numbered}
use Rattle.module_laws.proofs.WrittenSites.{IsOff}
use Rattle.poke_batch.specs.Clash.{held_bytes, holds_old}
use Rattle.poke_batch.specs.Poke.{spelled}

-- ---- which sites are patched

-- two sites that begin at one address are one
pub one_site : (m : Module) (i j : ℕ) (s u : Site) → IsLaidOut m → slice_get m.sites i ≡ Some s → slice_get m.sites j ≡ Some u → u.at ≡ s.at → u ≡ s
one_site m i j s u laid here there same =
    let s_len = (laid.inside i s here).two_or_five in
    let u_len = (laid.inside j u there).two_or_five in
    elim (cases_order j i) [
      | inl is ↦ same_Some u s (sym there ∙ ap (λ (k : ℕ). slice_get m.sites k) is ∙ here)
      | inr other ↦ elim other [
        | inl before ↦ (let ends = laid.apart j i u s before there here in absurd (omega (arith, ends, u_len, same)))
        | inr after ↦ (let ends = laid.apart i j s u after here there in absurd (omega (arith, ends, s_len, same)))
      ]
    ]

-- a patched site is found at its address, and a foreign one isn't
pub patched_found : (m : Module) (i : ℕ) (s : Site) → IsLaidOut m → slice_get m.sites i ≡ Some s → s.foreign ≡ false → is_none (site_at m.sites s.at) ≡ false
patched_found m i s laid here own =
    ap (λ (o : Option ℕ). is_none o) (site_numbered (layout_of m) i s laid.inside laid.apart here own)

pub foreign_missed : (m : Module) (i : ℕ) (s : Site) → IsLaidOut m → slice_get m.sites i ≡ Some s → s.foreign ≡ true → is_none (site_at m.sites s.at) ≡ true
foreign_missed m i s laid here foreign = by (site_at m.sites s.at) refl
  where
    by : (o : Option ℕ) → site_at m.sites s.at ≡ o → is_none o ≡ true
    by None is = refl
    by (Some j) is =
        let found = site_is (layout_of m) s.at j is in
        let same = one_site m i j s found.site laid here found.here found.same in
        absurd (true≢false (sym foreign ∙ ap (λ (x : Site). x.foreign) (sym same) ∙ found.ours))

-- ---- what sites hold

-- a foreign site holds what the module has there
pub foreign_bytes : (m : Module) (states : States) (text : List ℕ) (i : ℕ) (s : Site) → IsLaidOut m → HoldsWanted m states text → slice_get m.sites i ≡ Some s → s.foreign ≡ true → code_at m.base text s.at s.len ≡ code_at m.base m.text s.at s.len
foreign_bytes m states text i s laid holds here foreign =
    let from = (laid.inside i s here).from in
    same_piece text m.text (s.at - m.base) s.len
    (λ k low high. holds.others k (λ j u there own. beside (m.base + k) s.at s.len u (omega (arith, low, from)) (omega (arith, high, from)) (foreign_off m.sites i s laid.apart here foreign j u there own)))
  where
    beside : (k at len : ℕ) (u : Site) → at ≤ k → k < at + len → IsOff at len u → IsBeside k u
    beside k at len u low high (inl before) = inl (omega (arith, low, high, before))
    beside k at len u low high (inr after) = inr (omega (arith, low, high, after))

-- the bytes that a site holds, and those of the old form of its change
pub record IsHeld (m : Module) (text : List ℕ) (s : Site) (c : Change) : Type 0 where
  pub found : held_bytes (text_byte m.base text) c.at (size c.old) ≡ code_at m.base text s.at s.len
  pub code : List ℕ
  pub spelt : spell c.old s.at ≡ Some code
  pub expected : spelled c.old c.at ≡ code

held_there : (m : Module) (old new : States) (text : List ℕ) (i : ℕ) (c : Change) (is : IsChangeOf m old new i c) → IsAccepted m → AreStatesOf m old → length text ≡ length m.text → IsHeld m text is.site c
held_there m old new text i c is accepted before long =
    let inside = (sites_laid_out m accepted).inside i is.site is.here in
    let from = inside.from in
    let to = inside.to in
    let spelt = spelt_there m old i is.site c.old accepted before is.here is.before in
    record {
      found =
          ap (λ (n : ℕ). held_bytes (text_byte m.base text) n (size c.old)) is.at
          ∙ ap (λ (n : ℕ). held_bytes (text_byte m.base text) is.site.at n) spelt.size_is
          ∙ held_piece m.base text is.site.at is.site.len from (omega (arith, to, long));
      code = spelt.code;
      spelt = spelt.spelt;
      expected = ap (λ (n : ℕ). spelled c.old n) is.at ∙ ap (λ (o : Option (List ℕ)). unwrap_or o []) spelt.spelt;
    }

-- a patched site holds its old form
patched_holds : (m : Module) (old new : States) (text : List ℕ) (i : ℕ) (c : Change) (is : IsChangeOf m old new i c) → IsAccepted m → AreStatesOf m old → HoldsWanted m old text → is.site.foreign ≡ false → holds_old (text_byte m.base text) c ≡ true
patched_holds m old new text i c is accepted before holds own =
    let held = held_there m old new text i c is accepted before holds.same_length in
    let there = holds.patched i is.site c.old is.here own is.before in
    let same : code_at m.base text is.site.at is.site.len ≡ held.code = same_Some _ _ (sym there ∙ held.spelt) in
    (bytes_eq-Decides (held_bytes (text_byte m.base text) c.at (size c.old)) (spelled c.old c.at)).1 (held.found ∙ same ∙ sym held.expected)

-- a foreign one doesn't
foreign_differs : (m : Module) (old new : States) (text : List ℕ) (i : ℕ) (c : Change) (is : IsChangeOf m old new i c) → IsAccepted m → AreStatesOf m old → HoldsWanted m old text → is.site.foreign ≡ true → holds_old (text_byte m.base text) c ≡ false
foreign_differs m old new text i c is accepted before holds foreign = by (holds_old (text_byte m.base text) c) refl
  where
    by : (test : Bool) → holds_old (text_byte m.base text) c ≡ test → test ≡ false
    by false e = refl
    by true e =
        let held = held_there m old new text i c is accepted before holds.same_length in
        let bytes = (bytes_eq-Decides (held_bytes (text_byte m.base text) c.at (size c.old)) (spelled c.old c.at)).0 e in
        let kept = foreign_bytes m old text i is.site (sites_laid_out m accepted) holds is.here foreign in
        let code : held.code ≡ code_at m.base m.text is.site.at is.site.len = sym held.expected ∙ sym bytes ∙ held.found ∙ kept in
        absurd (foreign_hold m old i is.site c.old accepted is.here foreign is.before (held.spelt ∙ ap Some code))

-- so a change clashes exactly where its site is foreign
clash_is : (m : Module) (old new : States) (text : List ℕ) (i : ℕ) (c : Change) → IsAccepted m → AreStatesOf m old → HoldsWanted m old text → IsChangeOf m old new i c → not (holds_old (text_byte m.base text) c) ≡ is_foreign m c
clash_is m old new text i c accepted before holds is = by is.site.foreign refl
  where
    there : is_foreign m c ≡ is_none (site_at m.sites is.site.at)
    there = ap (λ (n : ℕ). is_none (site_at m.sites n)) is.at

    by : (foreign : Bool) → is.site.foreign ≡ foreign → not (holds_old (text_byte m.base text) c) ≡ is_foreign m c
    by true foreign =
        ap (λ (b : Bool). not b) (foreign_differs m old new text i c is accepted before holds foreign)
        ∙ sym (there ∙ foreign_missed m i is.site (sites_laid_out m accepted) is.here foreign)
    by false own =
        ap (λ (b : Bool). not b) (patched_holds m old new text i c is accepted before holds own)
        ∙ sym (there ∙ patched_found m i is.site (sites_laid_out m accepted) is.here own)

-- tests that agree find the same
find_same : {X : Type 0} (p q : X → Bool) (xs : List X) → All (λ x. p x ≡ q x) xs → find p xs ≡ find q xs
find_same p q [] all = refl
find_same {X = X} p q (x ∷ xs) all =
    ap (λ (b : Bool). cond b (Some x) (find p xs)) (All-head (λ (y : X). p y ≡ q y) x xs all)
    ∙ ap (λ (o : Option X). cond (q x) (Some x) o) (find_same p q xs (All-tail (λ (y : X). p y ≡ q y) x xs all))

pub clashes_foreign : ClashesAreForeign
clashes_foreign m old new text accepted before later holds =
    find_same (λ (c : Change). not (holds_old (text_byte m.base text) c)) (is_foreign m) (changes m old new)
    (all_from (λ (c : Change). not (holds_old (text_byte m.base text) c) ≡ is_foreign m c) m old new 0 (length m.sites) (omega arith) (λ i c low is. clash_is m old new text i c accepted before holds is))
