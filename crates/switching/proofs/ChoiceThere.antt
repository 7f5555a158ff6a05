-- As long as the script isn't finished there is a choice.
--
-- For the laws:
--   choices_there              a state is finished, or has a choice
--   chosen_there               where there is a choice one is chosen
use Rattle.std.proofs.Common.{◌≡◌, ◌⊎◌, inl, inr, ℕ, ◌<◌, ◌≤◌, ◌%◌, Bool, true, false, if◌then◌else◌, List, [], ◌∷◌, ◌++◌, length, slice_get, Option, Some, None, option_map, refl, ap, sym, subst, arith, length-append}
use Rattle.std.specs.Prelude.{nat_le, IsSome}
use Rattle.std.specs.List.{flat_map, range_with_len}
use Rattle.std.proofs.Math.Nat.{mod-lt}
use Rattle.std.proofs.lemmas.List.{length-map}
use Rattle.std.proofs.lemmas.Option.{slice_get-get_or}
use Rattle.rand_xoshiro.specs.SplitMix64.{mix_u64}
use Rattle.cpu_core.specs.Turn.{kind_of}
use Rattle.module_image.specs.Module.{Module}
use Rattle.poke_batch.specs.Walk.{Walk}
use Rattle.script_text.specs.declared.script.ScriptStep.{ScriptStep}
use Rattle.script_text.specs.declared.script.ScriptStep.TheVariants.{Update, Run, Drop}
use Rattle.switching.specs.Choice.{Choice, Chooser, by_cpu, choices, chosen, drawn, forced, forced_or_drawn, most_idle, of_cpu, patch_choices, take_choices, turn_choices, turn_of}
use Rattle.switching.specs.ChoiceLaws.{ChoiceIsThere}
use Rattle.switching.specs.Journal.{IsFinished, after}
use Rattle.switching.specs.Laws.{IsReached}
use Rattle.switching.specs.May.{has_turns}
use Rattle.switching.specs.State.{Cpu, State, first, starting}
use Rattle.switching.proofs.ChoiceMarks.{cpus_after}

-- lists of which one has an element
left_some : (xs ys : List Choice) → 0 < length xs → 0 < length (xs ++ ys)
left_some xs ys some = let long = length-append xs ys in omega (arith, long, some)

right_some : (xs ys : List Choice) → 0 < length ys → 0 < length (xs ++ ys)
right_some xs ys some = let long = length-append xs ys in omega (arith, long, some)

-- a state, by its steps, its open update and its processors
abbrev parted : State → List ScriptStep → Option Walk → List Cpu → State
parted s steps opened cpus = record s { steps = steps; opened = opened; cpus = cpus }

-- where processors have turns, the first one has its
turns_there : (m : Module) (s : State) → has_turns s.opened s.steps ≡ true → 0 < length s.cpus → 0 < length (choices m s)
turns_there m s turns some =
    right_some (patch_choices s) (by_cpu s each) (by s.cpus some)
  where
    each : ℕ → Cpu → List Choice
    each c p = take_choices s c p ++ turn_choices m s c p

    has : (c : ℕ) (p : Cpu) → 0 < length (each c p)
    has c p =
        right_some (take_choices s c p) (turn_choices m s c p)
        (subst (λ (b : Bool). 0 < length (if b then turn_of c (kind_of m p.state) ∷ [] else [])) (sym turns) (omega arith))

    by : (cpus : List Cpu) → 0 < length cpus → 0 < length (flat_map (λ c. of_cpu (slice_get cpus c) (each c)) (range_with_len 0 (length cpus)))
    by [] none = absurd (omega arith)
    by (p ∷ cpus) more = left_some (each 0 p) _ (has 0 p)

-- a state is finished, or has a choice
choices_by : (m : Module) (s : State) (steps : List ScriptStep) (opened : Option Walk) → 0 < length s.cpus → IsFinished (parted s steps opened s.cpus) ⊎ (0 < length (choices m (parted s steps opened s.cpus)))
choices_by m s steps (Some walk) some = inr (turns_there m (parted s steps (Some walk) s.cpus) refl some)
choices_by m s [] None some = inl (record { steps = refl; closed = refl })
choices_by m s (Update command ∷ steps) None some = inr (omega arith)
choices_by m s (Run turns ∷ steps) None some = inr (turns_there m (parted s (Run turns ∷ steps) None s.cpus) refl some)
choices_by m s (Drop place ∷ steps) None some = inr (omega arith)

pub choices_there : (m : Module) (s : State) → 0 < length s.cpus → IsFinished s ⊎ (0 < length (choices m s))
choices_there m s some = choices_by m s s.steps s.opened some

-- where there is a choice one is drawn
drawn_there : (words : ℕ) (all : List Choice) → 0 < length all → IsSome (drawn words all)
drawn_there words [] none = absurd (omega arith)
drawn_there words (one ∷ more) some =
    by (slice_get (one ∷ more) ((mix_u64 words).0 % length (one ∷ more)))
    (slice_get-get_or (one ∷ more) _ one (mod-lt _ some))
  where
    by : {x : Choice} (o : Option Choice) → o ≡ Some x → IsSome (option_map {U = Choice × ℕ} (λ c. (c, (mix_u64 words).1)) o)
    by None is = absurd (cc)
    by (Some c) is = refl

forced_there : (words : ℕ) (some all : List Choice) → 0 < length all → IsSome (forced_or_drawn words some all)
forced_there words [] all has = drawn_there words all has
forced_there words (one ∷ more) all has = refl

pub chosen_there : (m : Module) (ch : Chooser) → 0 < length (choices m ch.state) → IsSome (chosen m ch)
chosen_there m ch has = by (nat_le most_idle ch.idle)
  where
    by : (b : Bool) → IsSome (if b then forced_or_drawn ch.words (forced m ch.state) (choices m ch.state) else drawn ch.words (choices m ch.state))
    by true = forced_there ch.words (forced m ch.state) (choices m ch.state) has
    by false = drawn_there ch.words (choices m ch.state) has

-- there are processors in every state that is reached
cpus_there : (m : Module) (s : State) → IsReached m s → 0 < length s.cpus
cpus_there m s reached =
    let entries : 1 ≤ length reached.script.entries = reached.is_script.limits.some_cpus in
    let started : length (first m reached.script).cpus ≡ length reached.script.entries = length-map reached.script.entries starting in
    let same : length (after m (first m reached.script) reached.events).cpus ≡ length (first m reached.script).cpus = cpus_after m (first m reached.script) reached.events in
    let now : length s.cpus ≡ length (after m (first m reached.script) reached.events).cpus = ap (λ (t : State). length t.cpus) reached.is in
    omega (arith, entries, started, same, now)

pub choice_is_there : ChoiceIsThere
choice_is_there m ch reached more =
    elim (choices_there m ch.state (cpus_there m ch.state reached)) [
      | inl done ↦ absurd (more done)
      | inr some ↦ chosen_there m ch some
    ]
