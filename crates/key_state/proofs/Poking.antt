-- The changes between two states can be poked.
use Rattle.std.proofs.Common.{◌≡◌, ◌∙◌, ◌+◌, ◌<◌, ◌≤◌, ℕ, List, length, Some, slice_get, sym, ap, arith}
use Rattle.std.specs.Prelude.{IsSome}
use Rattle.std.specs.Option.{is_some}
use Rattle.insn_forms.specs.declared.forms.Change.{Change}
use Rattle.insn_forms.specs.declared.forms.Form.{Form}
use Rattle.insn_forms.specs.History.{text_byte}
use Rattle.insn_forms.specs.Spelling.{size, spell}
use Rattle.insn_forms.proofs.Spellings.{length-spell}
use Rattle.key_state.specs.Changes.{AreStatesOf}
use Rattle.key_state.specs.Laws.{ChangesCanBePoked}
use Rattle.key_state.proofs.Differing.{IsChangeOf, all_from, pairs_from}
use Rattle.key_state.proofs.Pieces.{some_byte}
use Rattle.module_parts.specs.declared.site.Site.{Site}
use Rattle.module_image.specs.Module.{IsAccepted, Module, States, wants}
use Rattle.module_image.proofs.Lent.{sites_laid_out}
use Rattle.module_laws.proofs.Reaching.{forms_reach}
use Rattle.poke_batch.specs.Clash.{IsPatchable}

-- a form has a spelling at an address, of n bytes
pub record IsSpeltAt (form : Form) (at len : ℕ) : Type 0 where
  pub code : List ℕ
  pub spelt : spell form at ≡ Some code
  pub long : length code ≡ len
  pub size_is : size form ≡ len

-- the form that a site wants has one of the site's length
pub spelt_there : (m : Module) (states : States) (i : ℕ) (s : Site) (form : Form) → IsAccepted m → AreStatesOf m states → slice_get m.sites i ≡ Some s → wants m states i ≡ Some form → IsSpeltAt form s.at s.len
spelt_there m states i s form accepted of here want =
    let reached = forms_reach m states i s form accepted of.leads here want in
    record {
      code = reached.0;
      spelt = reached.1;
      long = reached.2;
      size_is = sym (length-spell form s.at reached.0 reached.1) ∙ reached.2;
    }

-- both forms of a change are spelt at its site
pub record IsSpeltChange (c : Change) (s : Site) : Type 0 where
  pub old : IsSpeltAt c.old s.at s.len
  pub new : IsSpeltAt c.new s.at s.len

pub spelt_change : (m : Module) (old new : States) (i : ℕ) (c : Change) (is : IsChangeOf m old new i c) → IsAccepted m → AreStatesOf m old → AreStatesOf m new → IsSpeltChange c is.site
spelt_change m old new i c is accepted before later = record {
  old = spelt_there m old i is.site c.old accepted before is.here is.before;
  new = spelt_there m new i is.site c.new accepted later is.here is.later;
}

-- a form with a spelling has one
has_spelling : (form : Form) (at there len : ℕ) → there ≡ at → IsSpeltAt form at len → IsSome (spell form there)
has_spelling form at there len same is = ap (λ (n : ℕ). is_some (spell form n)) same ∙ ap is_some is.spelt

pub patchable : (m : Module) (old new : States) (text : List ℕ) (i : ℕ) (c : Change) → IsAccepted m → AreStatesOf m old → AreStatesOf m new → length text ≡ length m.text → IsChangeOf m old new i c → IsPatchable (text_byte m.base text) c
patchable m old new text i c accepted before later long is =
    let laid = sites_laid_out m accepted in
    let inside = laid.inside i is.site is.here in
    let from = inside.from in
    let to = inside.to in
    let below = laid.below in
    let at = is.at in
    let spelt = spelt_change m old new i c is accepted before later in
    let old_size = spelt.old.size_is in
    let new_size = spelt.new.size_is in
    record {
      one_size = old_size ∙ sym new_size;
      old_spelt = has_spelling c.old is.site.at c.at is.site.len at spelt.old;
      new_spelt = has_spelling c.new is.site.at c.at is.site.len at spelt.new;
      below = omega (arith, from, to, below, at, old_size);
      inside = λ j within. some_byte m.base text (c.at + j) (omega (arith, from, at)) (omega (arith, to, at, old_size, long, within));
    }

-- of two changes the later one's site begins where the first one's has ended
pub ascend : (m : Module) (old new : States) (i j : ℕ) (c d : Change) → IsAccepted m → AreStatesOf m old → IsChangeOf m old new i c → IsChangeOf m old new j d → i < j → c.at + size c.old ≤ d.at
ascend m old new i j c d accepted before first second later =
    let apart = (sites_laid_out m accepted).apart i j first.site second.site later first.here second.here in
    let long = (spelt_there m old i first.site c.old accepted before first.here first.before).size_is in
    let at = first.at in
    let next = second.at in
    omega (arith, apart, long, at, next)

pub can_poke : ChangesCanBePoked
can_poke m old new text accepted before later long =
    let held = text_byte m.base text in
    record {
      each = all_from (IsPatchable held) m old new 0 (length m.sites) (omega arith) (λ i c low is. patchable m old new text i c accepted before later long is);
      apart = pairs_from (λ (c d : Change). c.at + size c.old ≤ d.at) m old new 0 (length m.sites) (omega arith) (λ i j c d low after first second. ascend m old new i j c d accepted before first second after);
    }
