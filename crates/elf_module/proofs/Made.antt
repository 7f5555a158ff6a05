-- An array that was made by calls of a closure at its indices.
use denote.Param.Members.{Mut}
use Rattle.std.proofs.Common.{◌≡◌, ◌<◌, ◌≤◌, ◌+◌, ◌∙◌, ℕ, zero, suc, List, get_or, map, refl, ap, subst, arith, inl, inr}
use Rattle.std.specs.Fn.{Called}
use Rattle.std.specs.Array.{IsFromFnResult, IsFromFnResultFrom}
use Rattle.std.specs.List.{range_with_len}
use Rattle.std.proofs.lemmas.Bool.{cases_lt}
use Rattle.std.proofs.lemmas.List.FromFn.{fill_by_all}

-- calls that leave the closure as it is gave the value of a function at each index
each_value : {F X : Type 0} (g : Mut F (ℕ × Unit {0}) X) (f : F) (h : ℕ → X) (xs : List X) (d : X)
    → ((j : ℕ) (x : X) (q : F) → Called g f (j, tt) x q → (x ≡ h j) × (q ≡ f)) → (i n : ℕ) (p : F) → p ≡ f → IsFromFnResultFrom g p xs i n
    → (k : ℕ) → i ≤ k → k < i + n → get_or xs k d ≡ h k
each_value g f h xs d calls i zero p same made k from below = absurd (omega arith)
each_value {F} {X} g f h xs d calls i (suc n) p same made k from below =
    let P : F → Type 0 = λ y. Called g y (i, tt) made.1 made.0 in
    let call = calls i made.1 made.0 (subst P same made.3) in
    elim (cases_lt i k) [
      | inl before ↦ each_value g f h xs d calls (i + 1) n made.0 call.1 made.4 k (omega arith) (omega arith)
      | inr past ↦ (let here : k ≡ i = omega arith in ap (λ j. get_or xs j d) here ∙ made.2.1 d ∙ call.0 ∙ ap h (omega arith))
    ]

-- so the array is the list of that function
pub made_values : {F X : Type 0} (g : Mut F (ℕ × Unit {0}) X) (f : F) (h : ℕ → X) (xs : List X) (n : ℕ) (d : X) → IsFromFnResult g f xs n
    → ((j : ℕ) (x : X) (q : F) → Called g f (j, tt) x q → (x ≡ h j) × (q ≡ f)) → xs ≡ map h (range_with_len 0 n)
made_values g f h xs n d made calls =
    fill_by_all h xs n d made.long (λ k lt. each_value g f h xs d calls 0 n f refl made.each k (omega arith) (omega arith))
