-- A number on a list.
use Rattle.std.proofs.Common.{◌≡◌, refl, sym, ◌∙◌, ℕ, Bool, true, false, List, nat_eq, IsTrue, Contains, ◌↔◌, eq-eqb, eqb-true, arith}
use Rattle.std.specs.List.{IsAnyAnswer}

-- what a slice's `contains` answers is whether the number stands on the list
pub is_listed : (listed : Bool) (numbers : List ℕ) (x : ℕ) → IsAnyAnswer (λ y b. nat_eq y x ≡ b) numbers listed → IsTrue listed ↔ Contains numbers x
is_listed true numbers x h = (λ _. (h.0, h.1, eqb-true _ _ (h.2 x)), λ _. refl)
is_listed false numbers x h = (λ t. absurd (cc t), λ w. sym (h w.0 x (omega arith) w.1) ∙ eq-eqb _ _ w.2)
