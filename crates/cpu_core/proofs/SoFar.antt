-- Bytes of which the first are candidates of a processor.
use Rattle.std.proofs.Common.{◌≡◌, ℕ, ◌+◌, ◌<◌, ◌≤◌, inl, inr, List, length, sym, ◌∙◌, ap, subst, arith, Some}
use Rattle.std.specs.Prelude.{slice_get, slice_index}
use Rattle.std.specs.List.{Contains}
use Rattle.std.proofs.lemmas.Bool.{cases_lt}
use Rattle.std.proofs.lemmas.Option.{same_Some, slice_get_within}
use Rattle.insn_forms.specs.History.{IsCandidate, text_memory}
use Rattle.stale_fetch.specs.Past.{Past, candidates}
use Rattle.stale_fetch.specs.Since.{candidate_in, since_candidate}
use Rattle.stale_fetch.specs.Text.{Shape, Covers}
use Rattle.cpu_core.specs.Standing.{AreIts}

-- the first n bytes are inside of the text, and candidates
pub record AreSoFar (shape : Shape) (stands : Past → Type 0) (cpu at : ℕ) (bytes : List ℕ) (n place : ℕ) : Type 0 where
  pub next : place ≡ at + n
  pub to : at + n ≤ shape.base + shape.size
  pub each : (p : Past) → stands p → (j byte : ℕ) → j < n → slice_get bytes j ≡ Some byte → IsCandidate (text_memory p.base p.text) p.writes (slice_index p.marks cpu) (at + j) byte

pub so_far-start : (shape : Shape) (stands : Past → Type 0) (cpu at : ℕ) (bytes : List ℕ) → Covers shape at → AreSoFar shape stands cpu at bytes 0 at
so_far-start shape stands cpu at bytes inside = record {
  next = omega arith;
  to = let below = inside.below in omega arith;
  each = λ p is j byte less e. absurd (omega arith);
}

-- one more byte
pub so_far-more : (shape : Shape) (stands : Past → Type 0) (cpu at : ℕ) (bytes : List ℕ) (n place byte : ℕ) → AreSoFar shape stands cpu at bytes n place
    → slice_get bytes n ≡ Some byte → Covers shape place → ((p : Past) → stands p → Contains (candidates p cpu place) byte)
    → AreSoFar shape stands cpu at bytes (n + 1) (place + 1)
so_far-more shape stands cpu at bytes n place byte h here inside found = record {
  next = let next = h.next in omega arith;
  to = let next = h.next in let below = inside.below in omega arith;
  each = λ p is j value less e.
      elim (cases_lt j n) [
        | inl before ↦ h.each p is j value before e
        | inr after ↦
            let last : j ≡ n = omega arith in
            let same : byte ≡ value = same_Some _ _ (sym here ∙ ap (slice_get bytes) (sym last) ∙ e) in
            let there : place ≡ at + j = h.next ∙ ap (λ k. at + k) (sym last) in
            let IsOne : ℕ → ℕ → Type 0 = λ a v. IsCandidate (text_memory p.base p.text) p.writes (slice_index p.marks cpu) a v in
            subst (IsOne (at + j)) same
            (subst (λ (a : ℕ). IsOne a byte) there
            (candidate_in (text_memory p.base p.text) p.writes (slice_index p.marks cpu) place byte (found p is)))
      ];
}

-- all bytes are candidates
pub so_far-all : (shape : Shape) (stands : Past → Type 0) (cpu at : ℕ) (bytes : List ℕ) (n place : ℕ) (p : Past) → AreSoFar shape stands cpu at bytes n place → length bytes ≤ n → stands p → AreIts p cpu at bytes
so_far-all shape stands cpu at bytes n place p h all is j byte e =
    let inside = slice_get_within bytes j byte e in
    h.each p is j byte (omega arith) e

-- one of them is
pub its-at : (p : Past) (cpu at n place byte : ℕ) (bytes : List ℕ) → AreIts p cpu at bytes → slice_get bytes n ≡ Some byte → place ≡ at + n → Contains (candidates p cpu place) byte
its-at p cpu at n place byte bytes its here next =
    subst (λ (a : ℕ). Contains (candidates p cpu a) byte) (sym next)
    (since_candidate (text_memory p.base p.text) p.writes (slice_index p.marks cpu) (at + n) byte (its n byte here))
