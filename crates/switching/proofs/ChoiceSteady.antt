-- What holds of every state of a legal prefix, as far as the number of events needs it: how many processors there are, that one
-- in the handler runs, that the turns of the `run` line in front aren't used up, and that not all have taken the request.
--
-- For the laws:
--   IsSteady                   what holds
--   steady_first               it holds of the first state of a script
--   LowersTo                   a state in which it holds, and from which fewer events may come
use Rattle.std.proofs.Common.{◌≡◌, ℕ, zero, suc, ◌+◌, ◌<◌, ◌≤◌, Bool, true, false, if◌then◌else◌, List, [], ◌∷◌, length, drop, All, set, slice_get, Option, Some, None, Result, Ok, Err, option_map, refl, sym, subst, ◌∙◌, arith}
use Rattle.std.specs.Prelude.{⊤}
use Rattle.std.specs.List.{flat_map, list_all, range_with_len}
use Rattle.std.proofs.lemmas.List.{length-append, length-map}
use Rattle.std.proofs.lemmas.List.Elements.{All-head, All-tail}
use Rattle.std.proofs.lemmas.Option.{same_Some, slice_get-map}
use Rattle.cpu_core.specs.declared.turn.TurnKind.TheVariants as kind
use Rattle.cpu_core.specs.Turn.{kind_by, standing}
use Rattle.insn_forms.specs.declared.forms.Change.{Change}
use Rattle.insn_forms.specs.declared.forms.Form.{Form}
use Rattle.insn_forms.specs.Same.{same_form}
use Rattle.key_state.specs.declared.count.CountRefused.{CountRefused}
use Rattle.key_state.specs.After.{after}
use Rattle.key_state.specs.Changes.{change_at, change_between, change_of, changes}
use Rattle.key_state.specs.Outcome.{Ending}
use Rattle.module_parts.specs.declared.command.Command.{Command}
use Rattle.module_parts.specs.declared.site.Site.{Site}
use Rattle.module_image.specs.Layout.{site_at}
use Rattle.module_image.specs.Module.{Module, States, wants}
use Rattle.poke_batch.specs.Walk.{Walk}
use Rattle.script_text.specs.declared.script.ScriptStep.{ScriptStep}
use Rattle.script_text.specs.declared.script.ScriptStep.TheVariants.{Update, Run, Drop}
use Rattle.script_text.specs.Laws.{IsScriptOf, IsStepOf}
use Rattle.script_text.specs.Script.{ScriptValue}
use Rattle.x64_subset.specs.declared.proc.Life.{Life}
use Rattle.x64_subset.specs.declared.proc.Life.TheVariants.{Running, Done, Halted, Fault}
use Rattle.switching.specs.Beginning.{Beginning, Goes, Refuses, beginning, beginning_to, unless}
use Rattle.switching.specs.State.{Cpu, State, first, starting}
use Rattle.switching.proofs.ChoiceBound.{bound}
use Rattle.switching.proofs.Lookups.{AtSet, at_it, at_set, beside_it}

-- one in the handler runs
abbrev pub RunsTrapped : Cpu → Type 0
RunsTrapped p = p.state.trapped ≡ true → p.state.proc.life ≡ Running

abbrev pub AllRun : List Cpu → Type 0
AllRun cpus = (c : ℕ) (p : Cpu) → slice_get cpus c ≡ Some p → RunsTrapped p

-- each `run` line has a turn
abbrev pub AllTurn : List ScriptStep → Type 0
AllTurn [] = ⊤
AllTurn (Update command ∷ rest) = AllTurn rest
AllTurn (Run turns ∷ rest) = (1 ≤ turns) × AllTurn rest
AllTurn (Drop place ∷ rest) = AllTurn rest

-- of the `run` line in front not all turns are used, and of no other
abbrev pub TurnsFit : ℕ → List ScriptStep → Type 0
TurnsFit used [] = used ≡ 0
TurnsFit used (Update command ∷ rest) = used ≡ 0
TurnsFit used (Run turns ∷ rest) = used < turns
TurnsFit used (Drop place ∷ rest) = used ≡ 0

-- while an update is open no turn is used, and not all of the n processors have taken its request
abbrev pub WalkFits : ℕ → Option Walk → ℕ → List ScriptStep → Type 0
WalkFits n None used steps = TurnsFit used steps
WalkFits n (Some walk) used steps = (used ≡ 0) × (length walk.took ≡ n) × (list_all (λ t. t) walk.took ≡ false)

pub record IsSteady (n : ℕ) (s : State) : Type 0 where
  pub long : length s.cpus ≡ n
  pub some : 1 ≤ n
  pub few : n ≤ 16
  pub run : AllRun s.cpus
  pub turn : AllTurn s.steps
  pub walk : WalkFits n s.opened s.turns s.steps

-- a state in which that holds, and from which fewer events may come than from another
pub record LowersTo (n : ℕ) (s : State) (idle : ℕ) (t : State) (idle_then : ℕ) : Type 0 where
  pub fewer : suc (bound n t idle_then) ≤ bound n s idle
  pub steady : IsSteady n t

-- after the steps in front none of the turns of the next one are used
pub turns_fresh : (used : ℕ) (steps : List ScriptStep) → used ≡ 0 → AllTurn steps → TurnsFit used steps
turns_fresh used [] none turn = none
turns_fresh used (Update command ∷ rest) none turn = none
turns_fresh used (Run turns ∷ rest) none (some, turn) = omega (arith, none, some)
turns_fresh used (Drop place ∷ rest) none turn = none

pub turn_later : (steps : List ScriptStep) → AllTurn steps → AllTurn (drop 1 steps)
turn_later [] turn = tt
turn_later (Update command ∷ rest) turn = turn
turn_later (Run turns ∷ rest) (some, turn) = turn
turn_later (Drop place ∷ rest) turn = turn

-- another processor
pub run_set : (cpus : List Cpu) (c : ℕ) (q : Cpu) → AllRun cpus → RunsTrapped q → AllRun (set cpus c q)
run_set cpus c q all one d p here = by (at_set cpus c q d p here)
  where
    by : AtSet cpus c q d p → RunsTrapped p
    by (at_it same is) = subst RunsTrapped (sym is) one
    by (beside_it other there) = all d p there

-- ---- the first state

turn_of_module : (m : Module) (steps : List ScriptStep) → All (IsStepOf m) steps → AllTurn steps
turn_of_module m [] all = tt
turn_of_module m (Update command ∷ rest) all = turn_of_module m rest (All-tail (IsStepOf m) (Update command) rest all)
turn_of_module m (Run turns ∷ rest) all =
    (All-head (IsStepOf m) (Run turns) rest all, turn_of_module m rest (All-tail (IsStepOf m) (Run turns) rest all))
turn_of_module m (Drop place ∷ rest) all = turn_of_module m rest (All-tail (IsStepOf m) (Drop place) rest all)

started_runs : (entry : Option ℕ) (p : Cpu) → option_map starting entry ≡ Some p → RunsTrapped p
started_runs None p is = absurd (cc)
started_runs (Some entry) p is = subst RunsTrapped (same_Some (starting entry) p is) (λ caught. absurd (cc))

pub steady_first : (m : Module) (script : ScriptValue) → IsScriptOf m script → IsSteady (length script.entries) (first m script)
steady_first m script of = record {
  long = length-map script.entries starting;
  some = of.limits.some_cpus;
  few = of.limits.few_cpus;
  run = λ c p here. started_runs (slice_get script.entries c) p (sym (slice_get-map starting script.entries c) ∙ here);
  turn = turn_of_module m script.steps of.steps;
  walk = turns_fresh 0 script.steps refl (turn_of_module m script.steps of.steps);
}

-- ---- kinds of turns

-- nobody in the handler has a plain turn, or one at a site, and only one in the handler has its turn
pub plain_free : (m : Module) (trapped : Bool) (ip : ℕ) (life : Life) → kind_by m trapped ip life ≡ kind.Plain → trapped ≡ false
plain_free m false ip life is = refl
plain_free m true ip Running is = absurd (cc)
plain_free m true ip Done is = absurd (cc)
plain_free m true ip Halted is = absurd (cc)
plain_free m true ip (Fault why) is = absurd (cc)

pub at_free : (m : Module) (trapped : Bool) (ip : ℕ) (life : Life) → kind_by m trapped ip life ≡ kind.At → (trapped ≡ false) × (life ≡ Running)
at_free m false ip Running is = (refl, refl)
at_free m true ip Running is = absurd (cc)
at_free m trapped ip Done is = absurd (cc)
at_free m trapped ip Halted is = absurd (cc)
at_free m trapped ip (Fault why) is = absurd (cc)

standing_apart : (m : Module) (site : Option ℕ) → standing site ≡ kind.Handle → ⊥
standing_apart m None is = absurd (cc)
standing_apart m (Some site) is = absurd (cc)

pub handle_caught : (m : Module) (trapped : Bool) (ip : ℕ) (life : Life) → kind_by m trapped ip life ≡ kind.Handle → trapped ≡ true
handle_caught m true ip life is = refl
handle_caught m false ip Running is = absurd (standing_apart m (site_at m.sites ip) is)
handle_caught m false ip Done is = absurd (cc)
handle_caught m false ip Halted is = absurd (cc)
handle_caught m false ip (Fault why) is = absurd (cc)

-- ---- how many changes an update has

each_one : (f : ℕ → List Change) (a n : ℕ) → ((i : ℕ) → length (f i) ≤ 1) → length (flat_map f (range_with_len a n)) ≤ n
each_one f a zero one = omega arith
each_one f a (suc n) one =
    let here = one a in
    let later = each_one f (a + 1) n one in
    let long = length-append (f a) (flat_map f (range_with_len (a + 1) n)) in
    omega (arith, here, later, long)

one_between : (at : ℕ) (old new : Option Form) → length (change_between at old new) ≤ 1
one_between at None new = omega arith
one_between at (Some old) None = omega arith
one_between at (Some old) (Some new) = by (same_form old new)
  where
    by : (b : Bool) → length {A = Change} (if b then [] else record { at = at; old = old; new = new } ∷ []) ≤ 1
    by true = omega arith
    by false = omega arith

one_of : (site : Option Site) (old new : Option Form) → length (change_of site old new) ≤ 1
one_of None old new = omega arith
one_of (Some s) old new = one_between s.at old new

pub changes_few : (m : Module) (old new : States) → length (changes m old new) ≤ length m.sites
changes_few m old new =
    each_one (change_at m old new) 0 (length m.sites) (λ i. one_of (slice_get m.sites i) (wants m old i) (wants m new i))

-- a beginning has at most as many changes
abbrev pub HasFew : ℕ → Beginning → Type 0
HasFew most (Refuses ending) = ⊤
HasFew most (Goes new changes) = length changes ≤ most

pub beginning_few : (m : Module) (clash : List Change → Option Ending) (states : States) (command : Command) → HasFew (length m.sites) (beginning m clash states command)
beginning_few m clash states command = by_result (after states command)
  where
    by_clash : (new : States) (o : Option Ending) → HasFew (length m.sites) (unless o new (changes m states new))
    by_clash new None = changes_few m states new
    by_clash new (Some ending) = tt

    by_result : (r : Result States CountRefused) → HasFew (length m.sites) (beginning_to m clash states r)
    by_result (Err why) = tt
    by_result (Ok new) = by_clash new (clash (changes m states new))
