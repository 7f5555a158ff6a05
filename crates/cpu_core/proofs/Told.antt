-- Bytes that are too short to tell, and bytes that are a fetch.
use Rattle.std.proofs.Common.{◌≡◌, ℕ, zero, suc, ◌+◌, ◌<◌, ◌≤◌, ◌⊎◌, ◌↔◌, length-append, inl, inr, List, [], ◌∷◌, ◌++◌, length, take, drop, refl, sym, ◌∙◌, ap, subst, arith, append-nil, Ok, Err}
use Rattle.std.proofs.lemmas.Bool.{cases_lt}
use Rattle.std.proofs.lemmas.List.{take-append-drop, take-append-le}
use Rattle.std.proofs.Math.Seq.{take-append_seam}
use Rattle.x64_subset.specs.declared.insn.Insn.{Insn}
use Rattle.x64_subset.specs.declared.insn.Undecoded.TheVariants.{Short, Unknown}
use Rattle.x64_subset.specs.Spells.{Stands}
use Rattle.x64_subset.specs.Reading.{Answer, read}
use Rattle.x64_subset.proofs.Answered.{read_cut, read_stands, stands_read}
use Rattle.x64_subset.proofs.Exact.{AreBytes, stands_spelt}
use Rattle.x64_subset.proofs.Listed.{length-spells}
use Rattle.x64_subset.proofs.Table.{exact_read}
use Rattle.x64_subset.proofs.WhatIsRead.{what_is_read}
use Rattle.cpu_core.specs.Fetch.{IsInsn, IsUnknown, IsCutOff, IsFetch}
use Rattle.cpu_core.specs.Standing.{HasShortPrefixes}

-- the first of some bytes are bytes
bytes-take : (n : ℕ) (bytes : List ℕ) → AreBytes bytes → AreBytes (take n bytes)
bytes-take zero bytes fit = tt
bytes-take (suc n) [] fit = tt
bytes-take (suc n) (b ∷ bytes) (p, fit) = (p, bytes-take n bytes fit)

-- the first of bytes that are too short are too short
pub short-take : (at n : ℕ) (bytes : List ℕ) → AreBytes bytes → read at bytes ≡ Err Short → read at (take n bytes) ≡ Err Short
short-take at n bytes fit short =
    elim ((exact_read at).lasts (take n bytes) (drop n bytes) (bytes-take n bytes fit)) [
      | inl e ↦ e
      | inr e ↦ sym e ∙ ap (read at) (take-append-drop n bytes) ∙ short
    ]

-- nine bytes are never too short
pub length-short : (at : ℕ) (bytes : List ℕ) → AreBytes bytes → read at bytes ≡ Err Short → length bytes < 9
length-short at bytes fit short =
    let cut = read_cut at bytes fit short in
    let few = (length-spells cut.insn at cut.code cut.spelt).1 in
    let shorter = cut.shorter in
    omega arith

-- an instruction is read of its own bytes
pub own_stands : (at : ℕ) (bytes : List ℕ) (insn : Insn) (len : ℕ) → Stands insn len at bytes → read at (take len bytes) ≡ Ok (insn, length (take len bytes))
own_stands at bytes insn len place =
    let own = stands_spelt insn at (take len bytes) [] place.spelt in
    stands_read at (take len bytes) insn (length (take len bytes))
    (subst (λ (l : List ℕ). Stands insn (length (take len bytes)) at l) (append-nil (take len bytes)) own)

own_bytes : (at : ℕ) (bytes : List ℕ) (insn : Insn) (len : ℕ) → AreBytes bytes → read at bytes ≡ Ok (insn, len) → read at (take len bytes) ≡ Ok (insn, length (take len bytes))
own_bytes at bytes insn len fit e = own_stands at bytes insn len (read_stands at bytes insn len fit e)

-- an instruction that it took all bytes to tell has all of them
whole_insn : (at : ℕ) (bytes : List ℕ) (insn : Insn) (len : ℕ) → AreBytes bytes → HasShortPrefixes at bytes → read at bytes ≡ Ok (insn, len) → len ≡ length bytes
whole_insn at bytes insn len fit prefixes e =
    let inside : len ≤ length bytes = (what_is_read at bytes insn len e).3 in
    elim (cases_lt len (length bytes)) [
      | inl less ↦
          let short : read at (take len bytes) ≡ Err Short = prefixes len less in
          let found : read at (take len bytes) ≡ Ok (insn, length (take len bytes)) = own_bytes at bytes insn len fit e in
          absurd (cc)
      | inr all ↦ omega arith
    ]

-- bytes that it took all of to tell, or that end the text, are a fetch
pub told : (end at : ℕ) (bytes : List ℕ) → AreBytes bytes → HasShortPrefixes at bytes → at + length bytes ≤ end → (read at bytes ≡ Err Short → at + length bytes ≡ end) → IsFetch end at bytes
told end at bytes fit prefixes inside ends = record { inside = inside; told = go (read at bytes) refl }
  where
    go : (answer : Answer) → read at bytes ≡ answer → IsInsn at bytes ⊎ IsUnknown at bytes ⊎ IsCutOff end at bytes
    go (Ok (insn, len)) e = inl (insn, e ∙ ap (λ n. Ok (insn, n)) (whole_insn at bytes insn len fit prefixes e))
    go (Err Unknown) e = inr (inl (e, prefixes))
    go (Err Short) e = inr (inr (e, ends e))

-- bytes of a list with one more
front_bytes : (bytes : List ℕ) (b : ℕ) → AreBytes (bytes ++ b ∷ []) → AreBytes bytes
front_bytes [] b fit = tt
front_bytes (a ∷ bytes) b (p, fit) = (p, front_bytes bytes b fit)

-- it took all bytes to tell where it takes the last one
pub prefixes-last : (at : ℕ) (bytes rest : List ℕ) (b : ℕ) → AreBytes bytes → bytes ≡ rest ++ b ∷ [] → (read at rest ≡ Err Short) ↔ HasShortPrefixes at bytes
prefixes-last at bytes rest b fit e = (forth, back)
  where
    one : length bytes ≡ length rest + 1
    one = ap length e ∙ length-append rest (b ∷ [])

    forth : read at rest ≡ Err Short → HasShortPrefixes at bytes
    forth short n less =
        ap (λ l. read at (take n l)) e ∙ ap (read at) (take-append-le n rest (b ∷ []) (omega (arith, one)))
        ∙ short-take at n rest (front_bytes rest b (subst AreBytes e fit)) short

    back : HasShortPrefixes at bytes → read at rest ≡ Err Short
    back prefixes =
        sym (ap (λ l. read at (take (length rest) l)) e ∙ ap (read at) (take-append_seam rest (b ∷ [])))
        ∙ prefixes (length rest) (omega (arith, one))
