-- The updates among the steps of a script, step by step, and what they leave.
use Rattle.std.proofs.Common.{◌≡◌, ◌≤◌, ◌+◌, ◌∙◌, ℕ, List, [], ◌∷◌, ◌++◌, length, map, take, Some, refl, sym, ap, subst, arith, append-nil}
use Rattle.std.specs.List.{slice_get}
use Rattle.std.proofs.lemmas.Grind.{flat_map-append}
use Rattle.std.proofs.lemmas.List.{length-map, map-append}
use Rattle.std.proofs.lemmas.List.Sums.{sum_by-cons}
use Rattle.key_state.specs.declared.outcome.Outcome.{Outcome}
use Rattle.key_state.specs.Outcome.{Ending, HoldsWanted, ending_of, outcome, outcomes, settled, states_after}
use Rattle.key_state.specs.Settled.{IsSettledOf, SettledState}
use Rattle.key_state.proofs.Going.{outcomes_on}
use Rattle.module_parts.specs.declared.command.Command.{Command}
use Rattle.module_image.specs.Held.{first_states}
use Rattle.module_image.specs.Module.{Module, States}
use Rattle.script_text.specs.declared.script.ScriptStep.{ScriptStep}
use Rattle.script_text.specs.declared.script.ScriptStep.TheVariants.{Update, Run, Drop}
use Rattle.script_text.specs.Commands.{command_of, commands}
use Rattle.script_text.specs.Script.{ScriptValue, all_updates, update_count}
use Rattle.module_image.specs.SiteLine.{site_lines}
use Rattle.poke_commands.specs.Wants.{IsWantsText, last_states, outcome_lines, script_outcomes}
use Rattle.poke_base.proofs.ItemLines.{take_more}

-- the commands of the first steps, and of one more
commands_more : (steps : List ScriptStep) (i : ℕ) (step : ScriptStep) → slice_get steps i ≡ Some step → commands (take (i + 1) steps) ≡ commands (take i steps) ++ command_of step
commands_more steps i step there =
    ap (λ (xs : List ScriptStep). commands xs) (take_more steps i step there)
    ∙ flat_map-append command_of (take i steps) (step ∷ [])
    ∙ ap (λ (ys : List Command). commands (take i steps) ++ ys) (append-nil (command_of step))

-- some updates were done: how they ended, and the states that they leave
pub record HasTaken (m : Module) (states : States) (asked : List Command) (done : List Outcome) (now : SettledState) : Type 0 where
  pub endings : map ending_of done ≡ outcomes m states asked
  pub states_are : now.states ≡ states_after m states asked
  pub of : IsSettledOf m now

-- none was
pub has_taken-none : (m : Module) (now : SettledState) → IsSettledOf m now → HasTaken m now.states [] [] now
has_taken-none m now of = record { endings = refl; states_are = refl; of = of }

-- one more was done
taken_more : (m : Module) (states : States) (asked : List Command) (done : List Outcome) (before after : SettledState) (command : Command) (answer : Outcome) → HasTaken m states asked done before → ending_of answer ≡ outcome m before.states command → after.states ≡ settled m before.states command → IsSettledOf m after → HasTaken m states (asked ++ command ∷ []) (done ++ answer ∷ []) after
taken_more m states asked done before after command answer has ending states_are of =
    let on = outcomes_on m states asked (command ∷ []) in
    record {
      endings =
          map-append ending_of done (answer ∷ [])
          ∙ ap (λ (es : List Ending). es ++ ending_of answer ∷ []) has.endings
          ∙ ap (λ (e : Ending). outcomes m states asked ++ e ∷ []) (ending ∙ ap (λ (s : States). outcome m s command) has.states_are)
          ∙ sym on.0;
      states_are = states_are ∙ ap (λ (s : States). settled m s command) has.states_are ∙ sym on.1;
      of = of;
    }

-- a step that is an update was taken
pub update_taken : (m : Module) (states : States) (steps : List ScriptStep) (i : ℕ) (done : List Outcome) (before after : SettledState) (command : Command) (answer : Outcome) → slice_get steps i ≡ Some (Update command) → HasTaken m states (commands (take i steps)) done before → ending_of answer ≡ outcome m before.states command → after.states ≡ settled m before.states command → IsSettledOf m after → HasTaken m states (commands (take (i + 1) steps)) (done ++ answer ∷ []) after
update_taken m states steps i done before after command answer there has ending states_are of =
    subst (λ (asked : List Command). HasTaken m states asked (done ++ answer ∷ []) after) (sym (commands_more steps i (Update command) there))
    (taken_more m states (commands (take i steps)) done before after command answer has ending states_are of)

-- another step was passed over
pub passed_over : (m : Module) (states : States) (steps : List ScriptStep) (i : ℕ) (step : ScriptStep) (done : List Outcome) (now : SettledState) → slice_get steps i ≡ Some step → command_of step ≡ [] → HasTaken m states (commands (take i steps)) done now → HasTaken m states (commands (take (i + 1) steps)) done now
passed_over m states steps i step done now there none has =
    subst (λ (asked : List Command). HasTaken m states asked done now)
    (sym (commands_more steps i step there ∙ ap (λ (ys : List Command). commands (take i steps) ++ ys) none ∙ append-nil (commands (take i steps))))
    has

-- there are as many commands as updates
count_commands : (steps : List ScriptStep) → length (commands steps) ≡ all_updates steps
count_commands [] = refl
count_commands (Update command ∷ steps) =
    let total : all_updates (Update command ∷ steps) ≡ 1 + all_updates steps = sum_by-cons (λ n. n) 1 (map update_count steps) in
    let rest = count_commands steps in
    omega arith
count_commands (Run turns ∷ steps) =
    let total : all_updates (Run turns ∷ steps) ≡ 0 + all_updates steps = sum_by-cons (λ n. n) 0 (map update_count steps) in
    let rest = count_commands steps in
    omega arith
count_commands (Drop place ∷ steps) =
    let total : all_updates (Drop place ∷ steps) ≡ 0 + all_updates steps = sum_by-cons (λ n. n) 0 (map update_count steps) in
    let rest = count_commands steps in
    omega arith

count_outcomes : (m : Module) (states : States) (asked : List Command) → length (outcomes m states asked) ≡ length asked
count_outcomes m states [] = refl
count_outcomes m states (command ∷ asked) =
    let rest = count_outcomes m (settled m states command) asked in omega arith

-- so there are few outcomes where there are few updates
pub few_outcomes : (m : Module) (states : States) (steps : List ScriptStep) (done : List Outcome) (most : ℕ) → map ending_of done ≡ outcomes m states (commands steps) → all_updates steps ≤ most → length done ≤ most
few_outcomes m states steps done most endings few =
    let same = sym (length-map done ending_of) ∙ ap (λ (es : List Ending). length es) endings ∙ count_outcomes m states (commands steps) ∙ count_commands steps in
    omega arith

-- what all updates of a script leave, from the states as the file has them
pub endings_of_script : (m : Module) (s : ScriptValue) (states : States) (steps : List ScriptStep) (endings : List Ending) → states ≡ first_states m → steps ≡ s.steps → endings ≡ outcomes m states (commands steps) → endings ≡ script_outcomes m s
endings_of_script m s states steps endings first same is =
    is ∙ ap (λ (before : States). outcomes m before (commands steps)) first
    ∙ ap (λ (ss : List ScriptStep). outcomes m (first_states m) (commands ss)) same

pub text_of_script : (m : Module) (s : ScriptValue) (states : States) (steps : List ScriptStep) (now : SettledState) → states ≡ first_states m → steps ≡ s.steps → now.states ≡ states_after m states (commands steps) → IsSettledOf m now → HoldsWanted m (last_states m s) now.text
text_of_script m s states steps now first same is of =
    let last : now.states ≡ last_states m s =
    is ∙ ap (λ (before : States). states_after m before (commands steps)) first
    ∙ ap (λ (ss : List ScriptStep). states_after m (first_states m) (commands ss)) same
    in
    subst (λ (x : States). HoldsWanted m x now.text) last of.text

-- what is printed of a script whose updates were all done
pub wants_text : (m : Module) (s : ScriptValue) (done : List Outcome) (text : List ℕ) → map ending_of done ≡ script_outcomes m s → HoldsWanted m (last_states m s) text → IsWantsText m s (outcome_lines 1 (map ending_of done) ++ site_lines m.base text m.sites)
wants_text m s done text endings holds = record {
  text = text;
  settled = holds;
  is = ap (λ (es : List Ending). outcome_lines 1 es ++ site_lines m.base text m.sites) endings;
}
