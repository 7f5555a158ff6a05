-- The chunks of an update, one at a time.
use Rattle.std.proofs.Common.{◌≡◌, ◌≤◌, ◌<◌, ℕ, Bool, true, false, nat_eq, nat_lt, List, [], ◌∷◌, ◌++◌, length, map, take, drop, refl, sym, ap, ◌∙◌, arith, append_assoc, inl, inr, ◌⊎◌}
use Rattle.std.specs.Prelude.{min}
use Rattle.std.proofs.lemmas.Bool.{ltb-false, ltb-true}
use Rattle.std.proofs.lemmas.List.{map-append, take_all}
use Rattle.std.proofs.Math.ListN.{drop_of_length-le}
use Rattle.insn_forms.specs.declared.forms.Change.{Change}
use Rattle.poke_batch.specs.Poke.{chunks}
use Rattle.poke_batch.proofs.Chunks.{chunks-step}

-- the less of two numbers is one of them
least : (n k : ℕ) (below : Bool) → nat_lt n 256 ≡ below → k ≡ min n 256 → (k ≡ 256) ⊎ ((k ≡ n) × (k ≤ 256))
least n k true is e = (let lt : n < 256 = ltb-true n 256 is in inr (omega arith, omega arith))
least n k false is e = (let ge : 256 ≤ n = ltb-false n 256 is in inl (omega arith))

-- the first chunk is as long as it may be
first-chunk : (rest : List Change) (k : ℕ) → (k ≡ 256) ⊎ ((k ≡ length rest) × (k ≤ 256)) → (take k rest ≡ take 256 rest) × (drop k rest ≡ drop 256 rest)
first-chunk rest k (inl is) = (ap (λ n. take n rest) is, ap (λ n. drop n rest) is)
first-chunk rest k (inr (is, few)) =
    (take_all k rest (omega arith) ∙ sym (take_all 256 rest (omega arith)), drop_of_length-le rest {i = k} (omega arith) ∙ sym (drop_of_length-le rest {i = 256} (omega arith)))

-- one more chunk is added, and the others are left
pub chunk-added : {X : Type 0} (list : X → List Change) (all new : List X) (v : X) (rest front back : List Change) (whole : List (List Change)) (k : ℕ) → new ≡ all ++ v ∷ [] → list v ≡ front → front ≡ take k rest → back ≡ drop k rest → k ≡ min (length rest) 256 → 0 < length rest → map list all ++ chunks rest ≡ whole → map list new ++ chunks back ≡ whole
chunk-added {X = X} list all new v rest front back whole k added as_list front_is back_is which some before =
    let first = first-chunk rest k (least (length rest) k (nat_lt (length rest) 256) refl which) in
    ap (λ (vs : List X). map list vs ++ chunks back) added
    ∙ ap (λ (lists : List (List Change)). lists ++ chunks back) (map-append list all (v ∷ []))
    ∙ append_assoc (map list all) (list v ∷ []) (chunks back)
    ∙ ap (λ (one : List Change). map list all ++ one ∷ chunks back) (as_list ∙ front_is ∙ first.0)
    ∙ ap (λ (left : List Change). map list all ++ take 256 rest ∷ chunks left) (back_is ∙ first.1)
    ∙ ap (λ (lists : List (List Change)). map list all ++ lists) (sym (chunks-step rest some))
    ∙ before

-- what isn't empty has something
pub some-left : {X : Type 0} (xs : List X) → nat_eq (length xs) 0 ≡ false → 0 < length xs
some-left [] e = cc
some-left (x ∷ xs) e = omega arith
