-- The chunks of an update.
use Rattle.std.proofs.Common.{◌≡◌, ◌≤◌, ◌<◌, ℕ, zero, suc, List, [], ◌∷◌, ◌++◌, length, take, drop, refl, sym, ap, subst, ◌∙◌, arith, length-drop}
use Rattle.std.specs.List.{flat_map}
use Rattle.std.proofs.lemmas.List.{length-take, take-append-drop}
use Rattle.std.proofs.Math.ListN.{drop_of_length-le}
use Rattle.insn_forms.specs.declared.forms.Change.{Change}
use Rattle.poke_batch.specs.Poke.{chunks, cut}
use Rattle.poke_batch.specs.Laws.{AreChunks, AreFull}

-- one chunk and those after it
cut-step : (n : ℕ) (c : Change) (changes : List Change) → cut (suc n) (c ∷ changes) ≡ take 256 (c ∷ changes) ∷ cut n (drop 256 (c ∷ changes))
cut-step n c changes = refl

-- without a change there is no chunk
cut-none : (n : ℕ) → cut n [] ≡ []
cut-none zero = refl
cut-none (suc n) = refl

-- after a chunk there is less
shorter : (c : Change) (changes : List Change) → length (drop 256 (c ∷ changes)) ≤ length changes
shorter c changes = omega (arith, length-drop 256 (c ∷ changes))

-- any count that suffices makes the same chunks
cut-enough : (n m : ℕ) (changes : List Change) → length changes ≤ n → length changes ≤ m → cut n changes ≡ cut m changes
cut-enough n m [] le le' = cut-none n ∙ sym (cut-none m)
cut-enough zero m (c ∷ changes) le le' = absurd (omega arith)
cut-enough (suc n) zero (c ∷ changes) le le' = absurd (omega arith)
cut-enough (suc n) (suc m) (c ∷ changes) le le' =
    let less = shorter c changes in
    ap (λ (later : List (List Change)). take 256 (c ∷ changes) ∷ later) (cut-enough n m (drop 256 (c ∷ changes)) (omega arith) (omega arith))

-- the first chunk, and those of the changes after it
pub chunks-step : (changes : List Change) → 0 < length changes → chunks changes ≡ take 256 changes ∷ chunks (drop 256 changes)
chunks-step [] some = absurd (omega arith)
chunks-step (c ∷ changes) some =
    ap (λ (later : List (List Change)). take 256 (c ∷ changes) ∷ later) (cut-enough (length changes) (length (drop 256 (c ∷ changes))) (drop 256 (c ∷ changes)) (shorter c changes) (omega arith))

-- joined, the chunks are the changes
joined : (n : ℕ) (changes : List Change) → length changes ≤ n → flat_map (λ (chunk : List Change). chunk) (cut n changes) ≡ changes
joined n [] le = ap (flat_map (λ (chunk : List Change). chunk)) (cut-none n)
joined zero (c ∷ changes) le = absurd (omega arith)
joined (suc n) (c ∷ changes) le =
    let less = shorter c changes in
    ap (λ (rest : List Change). take 256 (c ∷ changes) ++ rest) (joined n (drop 256 (c ∷ changes)) (omega arith))
    ∙ take-append-drop 256 (c ∷ changes)

-- a chunk before others is full, where the others are
full-cons : (n : ℕ) (rest : List Change) (chunk : List Change) → (0 < length rest → length chunk ≡ 256) → 1 ≤ length chunk → length chunk ≤ 256 → length rest ≤ n → AreFull (cut n rest) → AreFull (chunk ∷ cut n rest)
full-cons n [] chunk more some most le full =
    subst (λ (later : List (List Change)). AreFull (chunk ∷ later)) (sym (cut-none n)) (some, most)
full-cons zero (c ∷ rest) chunk more some most le full = absurd (omega arith)
full-cons (suc n) (c ∷ rest) chunk more some most le full = (more (omega arith), full)

-- each chunk but the last has 256 changes
full : (n : ℕ) (changes : List Change) → length changes ≤ n → AreFull (cut n changes)
full n [] le = subst (λ (later : List (List Change)). AreFull later) (sym (cut-none n)) tt
full zero (c ∷ changes) le = absurd (omega arith)
full (suc n) (c ∷ changes) le =
    let less = shorter c changes in
    let taken = length-take 256 (c ∷ changes) in
    let left = length-drop 256 (c ∷ changes) in
    full-cons n (drop 256 (c ∷ changes)) (take 256 (c ∷ changes)) (λ more. omega arith) (omega arith) (omega arith) (omega arith) (full n (drop 256 (c ∷ changes)) (omega arith))

-- the chunks of an update are its changes
pub chunks_of : (changes : List Change) → AreChunks changes
chunks_of changes = record {
  joined = joined (length changes) changes (omega arith);
  full = full (length changes) changes (omega arith);
}

-- without changes left there is no chunk left
pub chunks-none : (changes : List Change) (n : ℕ) → length changes ≤ n → chunks (drop n changes) ≡ []
chunks-none changes n le = ap chunks (drop_of_length-le changes le)
