-- The changes of an open update, and the chunks that they are cut into.
use Rattle.std.proofs.Common.{◌≡◌, ◌∙◌, ◌+◌, ◌<◌, ◌≤◌, ◌⊎◌, inl, inr, ◌==◌, ℕ, false, if◌then◌else◌, get_or, List, [], ◌∷◌, ◌++◌, Contains, Some, None, slice_get, sym, ap, subst, arith}
use Rattle.std.proofs.lemmas.Bool.{cases_order}
use Rattle.std.proofs.lemmas.List.Elements.{All-contains_itself, Contains-append_left, Contains-append_right}
use Rattle.std.proofs.lemmas.Option.{same_Some}
use Rattle.insn_forms.specs.declared.forms.Change.{Change}
use Rattle.insn_forms.specs.declared.forms.Form.{Form}
use Rattle.insn_forms.specs.Spelling.{size}
use Rattle.insn_forms.proofs.Spellings.{size_pos}
use Rattle.poke_batch.specs.Underway.{AreApart, IsSpellable}
use Rattle.key_state.specs.Changes.{AreStatesOf, first_foreign}
use Rattle.module_parts.specs.declared.site.Site.{Site}
use Rattle.module_image.specs.Held as held
use Rattle.module_image.specs.Module.{IsAccepted, Module, States}
use Rattle.module_image.proofs.Lent.{sites_laid_out}
use Rattle.switching.specs.Switching.{with_new}
use Rattle.switching.proofs.Changed.{IsChanged, changed, changed_spellable}
use Rattle.switching.proofs.Chunk.{IsBeside}
use Rattle.switching.proofs.Invariant.{AreParts, IsElsewhere, IsUncovered}
use Rattle.switching.proofs.Lookups.{pairs_across, pairs_left, pairs_right, with_new-append, with_new-found, with_new-missed}
use Rattle.switching.proofs.Rounds.{IsPoked}

abbrev ends_first : Change → Change → Type 0
ends_first c d = c.at + size c.old ≤ d.at

module _ (m : Module) (states : States) (all finished chunk later : List Change) (accepted : IsAccepted m) (now : AreStatesOf m states) (p : AreParts m states all finished chunk later) where
  pub all_changed : (k : Change) → Contains all k → IsChanged m p.before states k
  all_changed k has =
      changed m p.before states k accepted p.before_of now (subst (λ (cs : List Change). first_foreign m cs ≡ None) p.is p.ours)
      (subst (λ (cs : List Change). Contains cs k) p.is has)

  pub in_finished : (k : Change) → Contains finished k → Contains all k
  in_finished k has = subst (λ (cs : List Change). Contains cs k) (sym p.parts) (Contains-append_left finished (chunk ++ later) k has)

  pub in_chunk : (k : Change) → Contains chunk k → Contains all k
  in_chunk k has =
      subst (λ (cs : List Change). Contains cs k) (sym p.parts)
      (Contains-append_right finished (chunk ++ later) k (Contains-append_left chunk later k has))

  pub in_later : (k : Change) → Contains later k → Contains all k
  in_later k has =
      subst (λ (cs : List Change). Contains cs k) (sym p.parts)
      (Contains-append_right finished (chunk ++ later) k (Contains-append_right chunk later k has))

  parts_apart : AreApart (finished ++ (chunk ++ later))
  parts_apart = subst (λ (cs : List Change). AreApart cs) p.parts p.apart

  finished_apart : AreApart finished
  finished_apart = pairs_left ends_first finished (chunk ++ later) parts_apart

  rest_apart : AreApart (chunk ++ later)
  rest_apart = pairs_right ends_first finished (chunk ++ later) parts_apart

  pub chunk_apart : AreApart chunk
  chunk_apart = pairs_left ends_first chunk later rest_apart

  chunk_each : (k : Change) → Contains chunk k → IsSpellable k
  chunk_each k has = changed_spellable m p.before states k accepted (all_changed k (in_chunk k has))

  pub poked : IsPoked chunk
  poked = record { each = λ i d below. chunk_each (get_or chunk i d) (All-contains_itself chunk i d below); apart = chunk_apart }

  -- a change of one part is at no address of another
  pub finished_not_chunk : (k l : Change) → Contains finished k → Contains chunk l → k.at ≡ l.at → ⊥
  finished_not_chunk k l has also same =
      let ends = pairs_across ends_first finished (chunk ++ later) k l parts_apart has (Contains-append_left chunk later l also) in
      let long = size_pos k.old in
      omega (arith, ends, long, same)

  pub finished_not_later : (k l : Change) → Contains finished k → Contains later l → k.at ≡ l.at → ⊥
  finished_not_later k l has also same =
      let ends = pairs_across ends_first finished (chunk ++ later) k l parts_apart has (Contains-append_right chunk later l also) in
      let long = size_pos k.old in
      omega (arith, ends, long, same)

  pub chunk_not_later : (k l : Change) → Contains chunk k → Contains later l → k.at ≡ l.at → ⊥
  chunk_not_later k l has also same =
      let ends = pairs_across ends_first chunk later k l rest_apart has also in
      let long = size_pos k.old in
      omega (arith, ends, long, same)

  -- what the sites hold now: a changed site of a finished chunk its new form, one of a later chunk its old one
  pub now_finished : (forms : ℕ → Form) (k : Change) → Contains finished k → with_new finished forms k.at ≡ k.new
  now_finished forms k has = with_new-found finished forms k finished_apart has

  pub now_later : (forms : ℕ → Form) (k : Change) → Contains later k → with_new finished forms k.at ≡ forms k.at
  now_later forms k has = with_new-missed finished forms k.at (λ c among. finished_not_later c k among has)

  pub now_chunk : (forms : ℕ → Form) (k : Change) → Contains chunk k → with_new finished forms k.at ≡ forms k.at
  now_chunk forms k has = with_new-missed finished forms k.at (λ c among. finished_not_chunk c k among has)

  -- after the chunk
  pub next_chunk : (forms : ℕ → Form) (k : Change) → Contains chunk k → with_new (finished ++ chunk) forms k.at ≡ k.new
  next_chunk forms k has =
      with_new-append finished chunk forms k.at
      ∙ with_new-missed finished (with_new chunk forms) k.at (λ c among. finished_not_chunk c k among has)
      ∙ with_new-found chunk forms k chunk_apart has

  pub next_other : (forms : ℕ → Form) (at : ℕ) → IsElsewhere chunk at → with_new (finished ++ chunk) forms at ≡ with_new finished forms at
  next_other forms at none = with_new-append finished chunk forms at ∙ same finished
    where
      same : (cs : List Change) → with_new cs (with_new chunk forms) at ≡ with_new cs forms at
      same [] = with_new-missed chunk forms at none
      same (c ∷ cs) = ap (λ (f : Form). if c.at == at then c.new else f) (same cs)

  -- the bytes of another patched site, and those of none, are beside the chunk's
  pub beside_site : (n : ℕ) (s : Site) (j : ℕ) → slice_get m.sites n ≡ Some s → s.foreign ≡ false → IsElsewhere chunk s.at → j < s.len → IsBeside chunk (s.at + j)
  beside_site n s j here ours none below k i has within same = by (cases_order n change.number)
    where
      change : IsChanged m p.before states k
      change = all_changed k (in_chunk k has)

      by : (n ≡ change.number) ⊎ ((n < change.number) ⊎ (change.number < n)) → ⊥
      by (inl one) =
          let site : s ≡ change.site = same_Some s change.site (sym here ∙ ap (λ (x : ℕ). slice_get m.sites x) one ∙ change.here) in
          none k has (sym change.begins ∙ ap (λ (u : Site). u.at) (sym site))
      by (inr (inl first)) =
          let ends = (sites_laid_out m accepted).apart n change.number s change.site first here change.here in
          let begins = change.begins in
          omega (arith, ends, begins, below, within, same)
      by (inr (inr next)) =
          let ends = (sites_laid_out m accepted).apart change.number n change.site s next change.here here in
          let begins = change.begins in
          let long = change.old_size in
          omega (arith, ends, begins, long, below, within, same)

  pub beside_rest : (at : ℕ) → IsUncovered m at → IsBeside chunk at
  beside_rest at free k i has within same = by (free change.number change.site change.here change.ours)
    where
      change : IsChanged m p.before states k
      change = all_changed k (in_chunk k has)

      by : held.IsBeside at change.site → ⊥
      by (inl first) = (let begins = change.begins in omega (arith, first, begins, within, same))
      by (inr next) = (let begins = change.begins in let long = change.old_size in omega (arith, next, begins, long, within, same))
