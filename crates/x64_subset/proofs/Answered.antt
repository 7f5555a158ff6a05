-- What is read of bytes: the instruction that stands there, that they are cut, or that neither is so.
use Rattle.std.proofs.Common.{◌≡◌, ◌↔◌, ◌⊎◌, inl, inr, ℕ, ◌<◌, ◌≤◌, List, [], ◌∷◌, ◌++◌, length, take, drop, refl, sym, ◌∙◌, ap, subst, Ok, Err, arith, get_or, zero, suc, append-nil, true}
use Rattle.std.specs.Prelude.{IfOk}
use Rattle.std.specs.List.{All}
use Rattle.std.proofs.lemmas.List.Elements.{All-head, All-tail}
use Rattle.std.proofs.lemmas.List.{take-append-drop, length-take-le}
use Rattle.x64_subset.specs.declared.insn.Insn.{Insn}
use Rattle.x64_subset.specs.declared.insn.Undecoded.TheVariants.{Short, Unknown}
use Rattle.x64_subset.specs.Spells.{Stands, IsCut, IsUnknown}
use Rattle.x64_subset.specs.Reading.{Answer, read}
use Rattle.x64_subset.specs.Subset.{is_listed}
use Rattle.x64_subset.proofs.Spelt.{reads_spelt}
use Rattle.x64_subset.proofs.Listed.{spells-bytes}
use Rattle.x64_subset.proofs.Exact.{AreBytes}
use Rattle.x64_subset.proofs.Table.{exact_read}
use Rattle.x64_subset.proofs.WhatIsRead.{answer_found}

-- numbers that are bytes at each index
pub bytes_at : (bytes : List ℕ) → ((i : ℕ) → get_or bytes i 0 < 256) → AreBytes bytes
bytes_at [] each = tt
bytes_at (b ∷ bytes) each = (each 0, bytes_at bytes (λ i. each (suc i)))

-- each element of a list is a byte, as `All` says it
pub bytes_all : (bytes : List ℕ) → All (λ byte. byte < 256) bytes → AreBytes bytes
bytes_all [] all = tt
bytes_all (b ∷ bytes) all =
    (All-head (λ byte. byte < 256) b bytes all, bytes_all bytes (All-tail (λ byte. byte < 256) b bytes all))

-- the first of some bytes
bytes_take : (n : ℕ) (bytes : List ℕ) → AreBytes bytes → AreBytes (take n bytes)
bytes_take zero bytes fit = tt
bytes_take (suc n) [] fit = tt
bytes_take (suc n) (b ∷ bytes) (p, fit) = (p, bytes_take n bytes fit)

-- an instruction that is read stands there
pub read_stands : (at : ℕ) (bytes : List ℕ) (insn : Insn) (len : ℕ) → AreBytes bytes → read at bytes ≡ Ok (insn, len) → Stands insn len at bytes
read_stands at bytes insn len fit e = (exact_read at).stands insn len bytes fit e

-- an instruction that stands there is read
pub stands_read : (at : ℕ) (bytes : List ℕ) (insn : Insn) (len : ℕ) → Stands insn len at bytes → read at bytes ≡ Ok (insn, len)
stands_read at bytes insn len s =
    let whole : take len bytes ++ drop len bytes ≡ bytes = take-append-drop len bytes in
    let size : length (take len bytes) ≡ len = length-take-le len bytes s.inside in
    ap (read at) (sym whole) ∙ reads_spelt insn at (take len bytes) s.spelt (drop len bytes)
    ∙ ap (λ (n : ℕ). Ok (insn, n)) size

-- bytes that are too short are cut
pub read_cut : (at : ℕ) (bytes : List ℕ) → AreBytes bytes → read at bytes ≡ Err Short → IsCut at bytes
read_cut at bytes fit e = (exact_read at).cut bytes fit e

-- what an answer is
by_answer : (P : Answer → Type 0) → ((insn : Insn) (len : ℕ) → P (Ok (insn, len))) → P (Err Short) → P (Err Unknown) → (a : Answer) → P a
by_answer P whole short unknown (Ok (insn, len)) = whole insn len
by_answer P whole short unknown (Err Short) = short
by_answer P whole short unknown (Err Unknown) = unknown

-- the whole of a spelling that bytes begin
whole_code : (at : ℕ) (bytes : List ℕ) → (c : IsCut at bytes) → bytes ++ drop (length bytes) c.code ≡ c.code
whole_code at bytes c =
    ap (λ (l : List ℕ). l ++ drop (length bytes) c.code) (sym c.prefix) ∙ take-append-drop (length bytes) c.code

-- bytes that are cut are too short
pub cut_read : (at : ℕ) (bytes : List ℕ) → IsCut at bytes → read at bytes ≡ Err Short
cut_read at bytes c =
    let fit : AreBytes bytes = subst AreBytes c.prefix (bytes_take (length bytes) c.code (spells-bytes c.insn at c.code c.spelt)) in
    let rest : List ℕ = drop (length bytes) c.code in
    let all : read at c.code ≡ Ok (c.insn, length c.code) = ap (read at) (sym (append-nil c.code)) ∙ reads_spelt c.insn at c.code c.spelt [] in
    let joined : read at (bytes ++ rest) ≡ Ok (c.insn, length c.code) = ap (read at) (whole_code at bytes c) ∙ all in
    let last : (read at bytes ≡ Err Short) ⊎ (read at (bytes ++ rest) ≡ read at bytes) = (exact_read at).lasts bytes rest fit in
    elim last [
      | inl short ↦ short
      | inr same ↦
          let stands : Stands c.insn (length c.code) at bytes = read_stands at bytes _ _ fit (sym same ∙ joined) in
          let inside : length c.code ≤ length bytes = stands.inside in
          let shorter : length bytes < length c.code = c.shorter in absurd (omega arith)
    ]

-- bytes that no instruction begins, and that none is begun by
pub read_unknown : (at : ℕ) (bytes : List ℕ) → AreBytes bytes → read at bytes ≡ Err Unknown → IsUnknown at bytes
read_unknown at bytes fit e = record {
  none = λ insn len s. let whole : read at bytes ≡ Ok (insn, len) = stands_read at bytes insn len s in absurd (cc);
  not_cut = λ c. let short : read at bytes ≡ Err Short = cut_read at bytes c in absurd (cc);
}

-- such bytes are unknown
pub unknown_read : (at : ℕ) (bytes : List ℕ) → AreBytes bytes → IsUnknown at bytes → read at bytes ≡ Err Unknown
unknown_read at bytes fit u =
    by_answer (λ a. read at bytes ≡ a → read at bytes ≡ Err Unknown)
    (λ insn len e. absurd (u.none insn len (read_stands at bytes insn len fit e)))
    (λ e. absurd (u.not_cut (read_cut at bytes fit e))) (λ e. e) (read at bytes) refl

-- an answer that is what is read tells which instruction stands there
pub answer_stands : (at : ℕ) (bytes : List ℕ) (a : Answer) → AreBytes bytes → a ≡ read at bytes → (insn : Insn) (len : ℕ) → (a ≡ Ok (insn, len)) ↔ Stands insn len at bytes
answer_stands at bytes a fit same insn len =
    (λ e. read_stands at bytes insn len fit (sym same ∙ e), λ s. same ∙ stands_read at bytes insn len s)

-- such an answer is of the subset
pub answer_listed : (at : ℕ) (bytes : List ℕ) (a : Answer) → a ≡ read at bytes → IfOk a (λ found. is_listed found.0 ≡ true)
answer_listed at bytes (Ok (insn, len)) same = (answer_found at bytes (Ok (insn, len)) same).0
answer_listed at bytes (Err fail) same = tt

-- such an answer has 1 to 9 bytes, all of which are there
pub answer_length : (at : ℕ) (bytes : List ℕ) (a : Answer) → a ≡ read at bytes → IfOk a (λ found. (1 ≤ found.1) × (found.1 ≤ 9) × (found.1 ≤ length bytes))
answer_length at bytes (Ok (insn, len)) same =
    let found = answer_found at bytes (Ok (insn, len)) same in (found.1, found.2, found.3)
answer_length at bytes (Err fail) same = tt

-- such an answer tells what is cut
pub answer_short : (at : ℕ) (bytes : List ℕ) (a : Answer) → AreBytes bytes → a ≡ read at bytes → (a ≡ Err Short) ↔ IsCut at bytes
answer_short at bytes a fit same =
    (λ e. read_cut at bytes fit (sym same ∙ e), λ cut. same ∙ cut_read at bytes cut)

-- such an answer tells what is unknown
pub answer_unknown : (at : ℕ) (bytes : List ℕ) (a : Answer) → AreBytes bytes → a ≡ read at bytes → (a ≡ Err Unknown) ↔ IsUnknown at bytes
answer_unknown at bytes a fit same =
    (λ e. read_unknown at bytes fit (sym same ∙ e), λ none. same ∙ unknown_read at bytes fit none)
