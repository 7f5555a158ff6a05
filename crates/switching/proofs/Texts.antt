-- What the patched sites of a text hold, from chunk to chunk.
use Rattle.std.proofs.Common.{◌≡◌, ◌∙◌, ◌+◌, ◌<◌, ℕ, false, List, [], ◌++◌, Contains, Some, slice_get, slice_index, sym, ap, subst, arith}
use Rattle.std.proofs.lemmas.Option.{same_Some}
use Rattle.insn_forms.specs.declared.forms.Change.{Change}
use Rattle.insn_forms.specs.declared.forms.Form.{Form}
use Rattle.insn_forms.specs.History.{Memory, written}
use Rattle.insn_forms.specs.Spelling.{size}
use Rattle.insn_forms.specs.Write.{Write}
use Rattle.poke_batch.specs.Poke.{spelled}
use Rattle.key_state.specs.Changes.{AreStatesOf}
use Rattle.module_parts.specs.declared.site.Site.{Site}
use Rattle.module_image.specs.Layout.{site_at}
use Rattle.module_image.specs.Module.{IsAccepted, Module, States}
use Rattle.switching.specs.State.{start}
use Rattle.switching.specs.Switching.{wanted_at, with_new}
use Rattle.switching.proofs.Changed.{IsChanged, unchanged}
use Rattle.switching.proofs.Chunk.{chunk_beside}
use Rattle.switching.proofs.Invariant.{AreParts, IsText}
use Rattle.switching.proofs.Lookups.{Found, found, missed, look, none_in}
use Rattle.switching.proofs.Patched.{one_number, site_found}
use Rattle.switching.proofs.Parts.{all_changed, beside_rest, beside_site, in_chunk, next_chunk, next_other, poked}
use Rattle.switching.proofs.Rounds.{BytesAre, round}

-- a text holds what it holds, whatever chunk is open
pub text_any : (m : Module) (forms : ℕ → Form) (chunk : List Change) (mem : Memory) → IsText m forms [] mem → IsText m forms chunk mem
text_any m forms chunk mem text = record {
  sites = λ n s j here ours none below. text.sites n s j here ours (λ k has. absurd (none_in k has)) below;
  rest = text.rest;
}

-- forms that agree at the patched sites
pub text_forms : (m : Module) (forms other : ℕ → Form) (chunk : List Change) (mem : Memory) → IsAccepted m → ((at n : ℕ) → site_at m.sites at ≡ Some n → forms at ≡ other at) → IsText m forms chunk mem → IsText m other chunk mem
text_forms m forms other chunk mem accepted same text = record {
  sites = λ n s j here ours none below.
      text.sites n s j here ours none below ∙ ap (λ (f : Form). slice_index (spelled f s.at) j) (same s.at n (site_found m n s accepted here ours));
  rest = text.rest;
}

-- the sites of changes whose old forms they are hold these
pub text_bytes : (m : Module) (before states : States) (forms : ℕ → Form) (mem : Memory) (chunk : List Change) → ((k : Change) → Contains chunk k → IsChanged m before states k × (forms k.at ≡ k.old)) → IsText m forms [] mem → BytesAre mem 0 chunk
text_bytes m before states forms mem chunk each text k j has below =
    let change = (each k has).0 in
    let at = change.begins in
    let long = change.old_size in
    ap (λ (a : ℕ). mem (a + j)) (sym at)
    ∙ text.sites change.number change.site j change.here change.ours (λ c among. absurd (none_in c among)) (omega (arith, below, long))
    ∙ ap (λ (a : ℕ). slice_index (spelled (forms a) a) j) at
    ∙ ap (λ (f : Form). slice_index (spelled f k.at) j) (each k has).1

module _ (m : Module) (states : States) (all finished chunk later : List Change) (accepted : IsAccepted m) (now : AreStatesOf m states) (p : AreParts m states all finished chunk later) where
  -- the writes of a round leave all but the chunk's sites as they were
  pub text_round : (forms : ℕ → Form) (past done todo : List Write) (r : ℕ) → round r chunk ≡ done ++ todo → IsText m forms chunk (written past (start m)) → IsText m forms chunk (written (past ++ done) (start m))
  text_round forms past done todo r split text = record {
    sites = λ n s j here ours none below.
        chunk_beside (start m) past done todo r chunk (s.at + j) (poked m states all finished chunk later accepted now p) split
        (beside_site m states all finished chunk later accepted now p n s j here ours none below)
        ∙ text.sites n s j here ours none below;
    rest = λ at free.
        chunk_beside (start m) past done todo r chunk at (poked m states all finished chunk later accepted now p) split
        (beside_rest m states all finished chunk later accepted now p at free)
        ∙ text.rest at free;
  }

  -- after the chunk its sites hold their new forms
  pub text_chunk : (forms : ℕ → Form) (mem : Memory) → BytesAre mem 3 chunk → IsText m (with_new finished forms) chunk mem → IsText m (with_new (finished ++ chunk) forms) [] mem
  text_chunk forms mem bytes text = record { sites = λ n s j here ours none below. by n s j here ours below (look chunk s.at); rest = text.rest }
    where
      by : (n : ℕ) (s : Site) (j : ℕ) → slice_get m.sites n ≡ Some s → s.foreign ≡ false → j < s.len → Found chunk s.at → mem (s.at + j) ≡ slice_index (spelled (with_new (finished ++ chunk) forms s.at) s.at) j
      by n s j here ours below (found k has begins is new form) =
          let change = all_changed m states all finished chunk later accepted now p k (in_chunk m states all finished chunk later accepted now p k has) in
          let one : change.number ≡ n = one_number m n change.number s change.site accepted here change.here (change.begins ∙ begins) in
          let site : change.site ≡ s = same_Some change.site s (sym change.here ∙ ap (λ (i : ℕ). slice_get m.sites i) one ∙ here) in
          let long : size k.old ≡ s.len = change.old_size ∙ ap (λ (u : Site). u.len) site in
          let formed = next_chunk m states all finished chunk later accepted now p forms k has in
          ap (λ (a : ℕ). mem (a + j)) (sym begins) ∙ bytes k j has (omega (arith, below, long))
          ∙ ap (λ (f : Form). slice_index (spelled f k.at) j) (sym formed)
          ∙ ap (λ (a : ℕ). slice_index (spelled (with_new (finished ++ chunk) forms a) a) j) begins
      by n s j here ours below (missed none is new form) =
          text.sites n s j here ours none below
          ∙ ap (λ (f : Form). slice_index (spelled f s.at) j) (sym (next_other m states all finished chunk later accepted now p forms s.at none))

  -- after all changes the patched sites hold what they want
  pub new_is_wanted : (at n : ℕ) → site_at m.sites at ≡ Some n → with_new all (wanted_at m p.before) at ≡ wanted_at m states at
  new_is_wanted at n is = by (look all at)
    where
      by : Found all at → with_new all (wanted_at m p.before) at ≡ wanted_at m states at
      by (found k has begins among new form) =
          let change = all_changed m states all finished chunk later accepted now p k has in
          new (wanted_at m p.before) ∙ change.new ∙ ap (λ (a : ℕ). wanted_at m states a) begins
      by (missed none among new form) =
          new (wanted_at m p.before)
          ∙ unchanged m p.before states at n accepted is (λ c has. none c (subst (λ (cs : List Change). Contains cs c) (sym p.is) has))
