-- The step in front of those that are still to come.
use Rattle.std.proofs.Common.{◌≡◌, ◌∙◌, ◌+◌, ◌≤◌, ◌==◌, ℕ, zero, suc, Bool, true, false, if◌then◌else◌, List, [], ◌∷◌, length, drop, Option, Some, None, slice_get, refl, ap, arith, add-one}
use Rattle.std.proofs.lemmas.Grind.{common_steps}
use Rattle.script_text.specs.declared.script.ScriptStep.{ScriptStep}
use Rattle.script_text.specs.declared.script.ScriptStep.TheVariants.{Update, Run, Drop}
use Rattle.switching.specs.May.{has_turns, is_begun_next}
use Rattle.script_runner.specs.Steps.{after_turn, front}

-- it is the one at the place
pub front_is : (place : ℕ) (steps : List ScriptStep) → slice_get steps place ≡ front (drop place steps)
front_is zero [] = refl
front_is (suc place) [] = refl
front_is zero (step ∷ steps) = refl
front_is (suc place) (step ∷ steps) = front_is place steps

-- whether it is an update or a drop, or a `run` line
abbrev pub is_begun : Option ScriptStep → Bool
is_begun None = false
is_begun (Some (Update command)) = true
is_begun (Some (Run turns)) = false
is_begun (Some (Drop place)) = true

abbrev pub is_run : Option ScriptStep → Bool
is_run None = false
is_run (Some (Update command)) = false
is_run (Some (Run turns)) = true
is_run (Some (Drop place)) = false

pub begins : (steps : List ScriptStep) → is_begun_next steps ≡ is_begun (front steps)
begins [] = refl
begins (Update command ∷ rest) = refl
begins (Run turns ∷ rest) = refl
begins (Drop place ∷ rest) = refl

pub runs : (steps : List ScriptStep) → has_turns None steps ≡ is_run (front steps)
runs [] = refl
runs (Update command ∷ rest) = refl
runs (Run turns ∷ rest) = refl
runs (Drop place ∷ rest) = refl

-- one step more is passed
pub one_more : (place : ℕ) (steps : List ScriptStep) → drop (place + 1) steps ≡ drop 1 (drop place steps)
one_more place steps = ap (λ (n : ℕ). drop n steps) (add-one place) ∙ go place steps
  where
    go : (n : ℕ) (xs : List ScriptStep) → drop (suc n) xs ≡ drop 1 (drop n xs)
    go zero xs = refl
    go (suc n) [] = refl
    go (suc n) (x ∷ xs) = go n xs

pub past_all : (place : ℕ) (steps : List ScriptStep) → length steps ≤ place → drop place steps ≡ drop 1 (drop place steps)
past_all zero [] le = refl
past_all zero (step ∷ steps) le = absurd (omega arith)
past_all (suc place) [] le = refl
past_all (suc place) (step ∷ steps) le = past_all place steps (omega arith)

-- a turn of the line in front, and none where no `run` line is in front
pub turn_last : (used turns : ℕ) (steps : List ScriptStep) → front steps ≡ Some (Run turns) → used + 1 ≡ turns → after_turn used steps ≡ (drop 1 steps, 0)
turn_last used turns [] is last = absurd (cc)
turn_last used turns (Update command ∷ rest) is last = absurd (cc)
turn_last used turns (Drop place ∷ rest) is last = absurd (cc)
turn_last used turns (Run n ∷ rest) is last = ap (λ (b : Bool). if b then (rest, 0) else (Run n ∷ rest, used + 1)) (is_last n (cc))
  where
    is_last : (n : ℕ) → n ≡ turns → (used + 1 == n) ≡ true
    is_last n same = grind (arith, common_steps)

pub turn_more : (used turns : ℕ) (steps : List ScriptStep) → front steps ≡ Some (Run turns) → (used + 1 ≡ turns → ⊥) → after_turn used steps ≡ (steps, used + 1)
turn_more used turns [] is more = absurd (cc)
turn_more used turns (Update command ∷ rest) is more = absurd (cc)
turn_more used turns (Drop place ∷ rest) is more = absurd (cc)
turn_more used turns (Run n ∷ rest) is more = ap (λ (b : Bool). if b then (rest, 0) else (Run n ∷ rest, used + 1)) (not_last n (cc))
  where
    not_last : (n : ℕ) → n ≡ turns → (used + 1 == n) ≡ false
    not_last n same = grind (arith, common_steps)

pub turn_none : (used : ℕ) (steps : List ScriptStep) → is_run (front steps) ≡ false → after_turn used steps ≡ (steps, used)
turn_none used [] is = refl
turn_none used (Update command ∷ rest) is = refl
turn_none used (Run n ∷ rest) is = absurd (cc)
turn_none used (Drop place ∷ rest) is = refl
