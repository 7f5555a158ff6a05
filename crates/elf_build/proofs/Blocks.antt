-- What is made of one block after the other.
use Rattle.std.proofs.Common.{◌≡◌, ◌<◌, ◌+◌, ◌-◌, ℕ, suc, List, ◌++◌, sym, ap, ◌∙◌, arith, append_assoc}
use Rattle.elf_build.specs.Generated.{block_len, block_of}

-- one block more
pub block-more : {X : Type 0} (from : ℕ → ℕ → ℕ → List X) (piece : ℕ → ℕ → List X) → ((left i at : ℕ) → from (suc left) i at ≡ piece i at ++ from left (i + 1) (at + block_len (block_of i))) → (n i at : ℕ) (out now whole : List X) → i < n → out ++ from (n - i) i at ≡ whole → now ≡ out ++ piece i at → now ++ from (n - (i + 1)) (i + 1) (at + block_len (block_of i)) ≡ whole
block-more {X = X} from piece step n i at out now whole below before is =
    let left : n - i ≡ suc (n - (i + 1)) = omega arith in
    let next = at + block_len (block_of i) in
    ap (λ (xs : List X). xs ++ from (n - (i + 1)) (i + 1) next) is
    ∙ append_assoc out (piece i at) (from (n - (i + 1)) (i + 1) next)
    ∙ ap (λ (xs : List X). out ++ xs) (sym (step (n - (i + 1)) i at) ∙ ap (λ (l : ℕ). from l i at) (sym left))
    ∙ before
