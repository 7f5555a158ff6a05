-- Chunks that stand one after the other.
use Rattle.std.proofs.Common.{◌≡◌, ◌∙◌, ◌≤◌, ℕ, zero, suc, List, [], ◌∷◌, ◌++◌, length, get_or, take, All, AllPairs, Some, sym, subst, arith, append_assoc, append-nil, length-append}
use Rattle.std.specs.Prelude.{⊤, slice_get}
use Rattle.std.proofs.lemmas.List.Elements.{All-cons, All-head, All-nil, All-tail}
use Rattle.std.proofs.lemmas.Option.{none-some, same_Some}
use Rattle.insn_forms.specs.declared.forms.Change.{Change}
use Rattle.live_text.specs.declared.plan.LiveSite.{LiveSite}
use Rattle.live_text.specs.Plan.{IsChange, IsChunk, form_after}
use Rattle.poke_batch.specs.Laws.{AreFull}
use Rattle.live_engine.proofs.FormsAfter.{Below, Spares, all-left, all-right, changed-elsewhere, form-append, front-spares, joined, pairs-left, pairs-right}

-- each chunk stands after those before it, the first of them after these
abbrev pub Follow : List LiveSite → List (List Change) → List (List Change) → Type 0
Follow sites earlier [] = ⊤
Follow sites earlier (chunk ∷ chunks) = IsChunk sites earlier chunk × Follow sites (earlier ++ chunk ∷ []) chunks

-- chunks and then others
pub follow-append : (sites : List LiveSite) (first more earlier : List (List Change)) → Follow sites earlier first → Follow sites (earlier ++ first) more → Follow sites earlier (first ++ more)
follow-append sites [] more earlier one two =
    subst (λ (before : List (List Change)). Follow sites before more) (append-nil earlier) two
follow-append sites (chunk ∷ first) more earlier one two =
    (one.0, follow-append sites first more (earlier ++ chunk ∷ []) one.1 (subst (λ (before : List (List Change)). Follow sites before more) (sym (append_assoc earlier (chunk ∷ []) first)) two))

-- one of them, by its number
pub follow-at : (sites : List LiveSite) (chunks earlier : List (List Change)) (j : ℕ) (chunk : List Change) → Follow sites earlier chunks → slice_get chunks j ≡ Some chunk → IsChunk sites (earlier ++ take j chunks) chunk
follow-at sites [] earlier j chunk follow here = absurd (none-some chunk here)
follow-at sites (c ∷ chunks) earlier zero chunk follow here =
    subst (λ (one : List Change). IsChunk sites (earlier ++ []) one) (same_Some c chunk here)
    (subst (λ (before : List (List Change)). IsChunk sites before c) (sym (append-nil earlier)) follow.0)
follow-at sites (c ∷ chunks) earlier (suc j) chunk follow here =
    subst (λ (before : List (List Change)). IsChunk sites before chunk) (append_assoc earlier (c ∷ []) (take j chunks))
    (follow-at sites chunks (earlier ++ c ∷ []) j chunk follow.1 here)

-- a change is one after a chunk more, which spares its site
change-later : (sites : List LiveSite) (earlier : List (List Change)) (chunk : List Change) (c : Change) → Spares chunk c.at → IsChange sites earlier c → IsChange sites (earlier ++ chunk ∷ []) c
change-later sites earlier chunk c spares is = record {
  site = is.site;
  listed = is.listed;
  there = is.there;
  old_is =
      is.old_is ∙ sym (form-append earlier (chunk ∷ []) c.at is.site.start ∙ changed-elsewhere chunk c.at (form_after earlier c.at is.site.start) spares);
  one_size = is.one_size;
  old_spelt = is.old_spelt;
  new_spelt = is.new_spelt;
}

-- each chunk has 1 to 256 changes
abbrev pub Short : List Change → Type 0
Short chunk = (1 ≤ length chunk) × (length chunk ≤ 256)

pub full-short : (chunks : List (List Change)) → AreFull chunks → All Short chunks
full-short [] full = All-nil Short
full-short (chunk ∷ []) full = All-cons Short chunk [] full (All-nil Short)
full-short (chunk ∷ next ∷ later) full =
    let many = full.0 in
    All-cons Short chunk (next ∷ later) (omega arith, omega arith) (full-short (next ∷ later) full.1)

-- so there are no more chunks than changes
pub short-few : (chunks : List (List Change)) → All Short chunks → length chunks ≤ length (joined chunks)
short-few [] short = omega arith
short-few (chunk ∷ chunks) short =
    let some = (All-head Short chunk chunks short).0 in
    let few = short-few chunks (All-tail Short chunk chunks short) in
    omega (arith, length-append chunk (joined chunks))

-- the pieces of changes that ascend and are ones after earlier chunks follow these
pub pieces-follow : (sites : List LiveSite) (pieces earlier : List (List Change)) → All Short pieces → AllPairs Below (joined pieces) → All (IsChange sites earlier) (joined pieces) → Follow sites earlier pieces
pieces-follow sites [] earlier short ascend changes = tt
pieces-follow sites (chunk ∷ pieces) earlier short ascend changes =
    let size = All-head Short chunk pieces short in
    let spares = front-spares chunk (joined pieces) ascend in
    let later = all-right (IsChange sites earlier) chunk (joined pieces) changes in (
      record {
        some = size.0;
        most = size.1;
        ascend = pairs-left Below chunk (joined pieces) ascend;
        changes = all-left (IsChange sites earlier) chunk (joined pieces) changes;
      },
      pieces-follow sites pieces (earlier ++ chunk ∷ []) (All-tail Short chunk pieces short) (pairs-right Below chunk (joined pieces) ascend)
          (λ k d below. change-later sites earlier chunk (get_or (joined pieces) k d) (spares k d below) (later k d below)),
    )

-- what holds of all changes holds of those of each chunk
pub all-pieces : (P : Change → Type 0) (pieces : List (List Change)) → All P (joined pieces) → All (All P) pieces
all-pieces P [] all = All-nil (All P)
all-pieces P (chunk ∷ pieces) all =
    All-cons (All P) chunk pieces (all-left P chunk (joined pieces) all) (all-pieces P pieces (all-right P chunk (joined pieces) all))
