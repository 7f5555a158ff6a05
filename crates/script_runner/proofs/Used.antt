-- A turn that is used: what is left of the script, and that nothing else changes.
use Rattle.std.proofs.Common.{◌≡◌, ◌∙◌, ◌+◌, ◌==◌, ℕ, Bool, true, false, if◌then◌else◌, List, [], ◌∷◌, Option, Some, None, refl, sym, ap}
use Rattle.poke_batch.specs.Walk.{Walk}
use Rattle.script_text.specs.declared.script.ScriptStep.{ScriptStep}
use Rattle.script_text.specs.declared.script.ScriptStep.TheVariants as step
use Rattle.switching.specs.Next.{used, used_at, used_of}
use Rattle.switching.specs.State.{State}
use Rattle.script_runner.specs.declared.progress.Progress.{Progress}
use Rattle.script_runner.specs.Steps.{after_turn, to_come}
use Rattle.script_runner.specs.Turns.{IsUsed, progress_of}
use Rattle.script_runner.specs.World.{StandsFor, WorldSeen, left}

-- a state that differs in the script alone
pub record IsElse (s t : State) : Type 0 where
  pub writes : t.writes ≡ s.writes
  pub updates : t.updates ≡ s.updates
  pub states : t.states ≡ s.states
  pub opened : t.opened ≡ s.opened
  pub cpus : t.cpus ≡ s.cpus

pub else_itself : (s : State) → IsElse s s
else_itself s = record { writes = refl; updates = refl; states = refl; opened = refl; cpus = refl }

used_of_else : (turns : ℕ) (s : State) (rest : List ScriptStep) → IsElse s (used_of turns s rest)
used_of_else turns s rest = by (s.turns + 1 == turns)
  where
    by : (b : Bool) → IsElse s (if b then record s { steps = rest; turns = 0 } else record s { turns = s.turns + 1 })
    by true = record { writes = refl; updates = refl; states = refl; opened = refl; cpus = refl }
    by false = record { writes = refl; updates = refl; states = refl; opened = refl; cpus = refl }

used_at_else : (s : State) (opened : Option Walk) (steps : List ScriptStep) → IsElse s (used_at s opened steps)
used_at_else s (Some walk) steps = else_itself s
used_at_else s None [] = else_itself s
used_at_else s None (step.Update command ∷ rest) = else_itself s
used_at_else s None (step.Run turns ∷ rest) = used_of_else turns s rest
used_at_else s None (step.Drop place ∷ rest) = else_itself s

pub used_else : (s : State) → IsElse s (used s)
used_else s = used_at_else s s.opened s.steps

-- what is left of the script
abbrev pub script_left : State → List ScriptStep × ℕ
script_left s = (s.steps, s.turns)

used_closed : (s : State) (steps : List ScriptStep) → s.steps ≡ steps → script_left (used_at s None steps) ≡ after_turn s.turns steps
used_closed s [] is = ap (λ (xs : List ScriptStep). (xs, s.turns)) is
used_closed s (step.Update command ∷ rest) is = ap (λ (xs : List ScriptStep). (xs, s.turns)) is
used_closed s (step.Run turns ∷ rest) is = by (s.turns + 1 == turns)
  where
    by : (b : Bool) → script_left (if b then record s { steps = rest; turns = 0 } else record s { turns = s.turns + 1 }) ≡ (if b then (rest, 0) else (step.Run turns ∷ rest, s.turns + 1))
    by true = refl
    by false = ap (λ (xs : List ScriptStep). (xs, s.turns + 1)) is
used_closed s (step.Drop place ∷ rest) is = ap (λ (xs : List ScriptStep). (xs, s.turns)) is

pub used_left : (w : WorldSeen) (s : State) (new : Progress) → StandsFor w s → IsUsed w.batch.update (progress_of w) w.script.steps new → (to_come new w.script.steps, new.turns) ≡ script_left (used s)
used_left w s new h is = by w.batch.update h.opened is
  where
    steps : left w ≡ s.steps
    steps = h.steps

    by : (o : Option Walk) → o ≡ s.opened → IsUsed o (progress_of w) w.script.steps new → (to_come new w.script.steps, new.turns) ≡ script_left (used s)
    by (Some walk) same is =
        ap (λ (p : Progress). (to_come p w.script.steps, p.turns)) is
        ∙ ap (λ (xs : List ScriptStep). (xs, w.turns)) h.steps
        ∙ ap (λ (n : ℕ). (s.steps, n)) h.turns
        ∙ ap (λ (o : Option Walk). script_left (used_at s o s.steps)) same
    by None same is =
        is
        ∙ ap (λ (xs : List ScriptStep). after_turn w.turns xs) h.steps
        ∙ ap (λ (n : ℕ). after_turn n s.steps) h.turns
        ∙ sym (used_closed s s.steps refl)
        ∙ ap (λ (o : Option Walk). script_left (used_at s o s.steps)) same
