-- Each event that the rule chooses lowers the number of those that may still come.
--
-- For the laws:
--   begin_lowers, write_lowers, request_lowers, take_lowers, return_lowers        an event of the patch
--   turn_lowers                a turn, before the sixteenth or of one that leaves the handler while a request waits
use Rattle.std.proofs.Common.{◌≡◌, ◌⊎◌, inl, inr, ℕ, zero, suc, ◌+◌, ◌<◌, ◌≤◌, ◌==◌, Bool, true, false, if◌then◌else◌, List, [], ◌∷◌, ◌++◌, length, take, drop, set, Option, Some, None, refl, ap, sym, subst, ◌∙◌, arith}
use Rattle.std.specs.List.{flat_map, list_all}
use Rattle.std.proofs.lemmas.Bool.{cases_order}
use Rattle.std.proofs.lemmas.Bool.Decides.{Decides-eqb}
use Rattle.std.proofs.lemmas.List.{length-replicate, length-set}
use Rattle.std.proofs.lemmas.Option.{slice_get_within}
use Rattle.insn_forms.specs.declared.forms.Change.{Change}
use Rattle.module_parts.specs.declared.command.Command.{Command}
use Rattle.module_image.specs.Module.{Module}
use Rattle.poke_batch.specs.declared.batch.Due.TheVariants as due
use Rattle.poke_batch.specs.Poke.{Item, cut, poke}
use Rattle.poke_batch.specs.Poke.Item.{Puts, Syncs}
use Rattle.poke_batch.specs.Walk.{Walk, due_of, nobody, passed, taken}
use Rattle.run_journal.specs.declared.event.Event.TheVariants.{Begin, Write, Request, Take, Return}
use Rattle.script_text.specs.declared.script.ScriptStep.{ScriptStep}
use Rattle.script_text.specs.declared.script.ScriptStep.TheVariants.{Update, Run, Drop}
use Rattle.switching.specs.Beginning.{Beginning, Goes, Refuses, beginning, clash_of_bytes}
use Rattle.switching.specs.May.{MayBegin, MayTake, has_turns}
use Rattle.switching.specs.Next.{at_cpu, begun, next, took, used, used_of}
use Rattle.switching.specs.State.{Cpu, State, held_after}
use Rattle.switching.proofs.ChoiceBound.{front, front_fresh, front_idle, front_late, items_cost, items_cost-append, items_most, steps_bound, trapped, trapped_few, untaken, untaken_few, untaken_nobody, untaken_set, untaken_some}
use Rattle.switching.proofs.ChoiceSteady.{AllRun, HasFew, IsSteady, LowersTo, RunsTrapped, beginning_few, run_set, turn_later, turns_fresh}

-- a state, by its steps and its open update
abbrev pub parted : State → List ScriptStep → Option Walk → State
parted s steps opened = record s { steps = steps; opened = opened }

-- an update, by the items that are left of the open chunk, and whether its request was made
abbrev cut_at : Walk → List Item → Bool → Walk
cut_at w left requested = record w { left = left; requested = requested }

-- ---- the beginning

-- where no turn is used the steps cost the same
steps_unused : (used : ℕ) (steps : List ScriptStep) → used ≡ 0 → steps_bound used steps ≡ steps_bound 0 steps
steps_unused used steps none = ap (λ (n : ℕ). steps_bound n steps) none

nobody_unfinished : (n : ℕ) → 1 ≤ n → list_all (λ t. t) (nobody n) ≡ false
nobody_unfinished zero none = absurd (omega arith)
nobody_unfinished (suc n) some = refl

few_most : (b : Beginning) (most : ℕ) → most ≤ 1024 → HasFew most b → HasFew 1024 b
few_most (Refuses ending) most below few = tt
few_most (Goes new changes) most below few = omega (arith, below, few)

begun_lowers : (n : ℕ) (s : State) (idle : ℕ) (command : Command) (rest : List ScriptStep) → IsSteady n (parted s (Update command ∷ rest) None) → (b : Beginning) → HasFew 1024 b → LowersTo n (parted s (Update command ∷ rest) None) idle (begun (parted s (Update command ∷ rest) None) rest b) 0
begun_lowers n s idle command rest steady (Refuses ending) few =
    let none : s.turns ≡ 0 = steady.walk in
    let same = steps_unused s.turns rest none in
    record {
      fewer = omega (arith, same);
      steady = record {
        long = steady.long;
        some = steady.some;
        few = steady.few;
        run = steady.run;
        turn = steady.turn;
        walk = turns_fresh s.turns rest none steady.turn;
      };
    }
begun_lowers n s idle command rest steady (Goes new []) few =
    let none : s.turns ≡ 0 = steady.walk in
    let same = steps_unused s.turns rest none in
    record {
      fewer = omega (arith, same);
      steady = record {
        long = steady.long;
        some = steady.some;
        few = steady.few;
        run = steady.run;
        turn = steady.turn;
        walk = turns_fresh s.turns rest none steady.turn;
      };
    }
begun_lowers n s idle command rest steady (Goes new (c ∷ changes)) few =
    let none : s.turns ≡ 0 = steady.walk in
    let long : length s.cpus ≡ n = steady.long in
    let some : 1 ≤ n = steady.some in
    let chunk : List Change = take 256 (c ∷ changes) in
    let later : List (List Change) = cut (length changes) (drop 256 (c ∷ changes)) in
    let u : ℕ = untaken (nobody (length s.cpus)) in
    let all = untaken_nobody (length s.cpus) in
    let fresh : front n (poke chunk) false u 0 (trapped s.cpus) ≤ items_cost n (poke chunk) + 17 = front_fresh n (poke chunk) false u (trapped s.cpus) (omega (arith, all, long, some)) (omega (arith, all, long)) in
    let both = items_cost-append n (poke chunk) (flat_map poke later) in
    let most : items_cost n (poke chunk ++ flat_map poke later) ≤ 110988 = items_most n (c ∷ changes) few steady.few in
    record {
      fewer = omega (arith, fresh, both, most);
      steady = record {
        long = steady.long;
        some = steady.some;
        few = steady.few;
        run = steady.run;
        turn = steady.turn;
        walk = (none, length-replicate (length s.cpus) false ∙ long, nobody_unfinished (length s.cpus) (omega (arith, long, some)));
      };
    }

begin_by : (n : ℕ) (m : Module) (s : State) (idle : ℕ) (steps : List ScriptStep) (opened : Option Walk) → length m.sites ≤ 1024 → IsSteady n (parted s steps opened) → MayBegin (parted s steps opened) → LowersTo n (parted s steps opened) idle (next m (parted s steps opened) Begin) 0
begin_by n m s idle steps (Some w) sites steady may = let closed : Some w ≡ None = may.closed in absurd (cc)
begin_by n m s idle [] None sites steady may = let begins : false ≡ true = may.next in absurd (cc)
begin_by n m s idle (Update command ∷ rest) None sites steady may =
    begun_lowers n s idle command rest steady (beginning m (clash_of_bytes (held_after m s.writes)) s.states command)
    (few_most (beginning m (clash_of_bytes (held_after m s.writes)) s.states command) (length m.sites) sites (beginning_few m (clash_of_bytes (held_after m s.writes)) s.states command))
begin_by n m s idle (Run turns ∷ rest) None sites steady may = let begins : false ≡ true = may.next in absurd (cc)
begin_by n m s idle (Drop place ∷ rest) None sites steady may =
    let none : s.turns ≡ 0 = steady.walk in
    let same = steps_unused s.turns rest none in
    record {
      fewer = omega (arith, same);
      steady = record {
        long = steady.long;
        some = steady.some;
        few = steady.few;
        run = steady.run;
        turn = steady.turn;
        walk = turns_fresh s.turns rest none steady.turn;
      };
    }

pub begin_lowers : (n : ℕ) (m : Module) (s : State) (idle : ℕ) → length m.sites ≤ 1024 → IsSteady n s → MayBegin s → LowersTo n s idle (next m s Begin) 0
begin_lowers n m s idle sites steady may = begin_by n m s idle s.steps s.opened sites steady may

-- ---- a write, a request and the return

write_by : (n : ℕ) (m : Module) (s : State) (w : Walk) (left : List Item) (requested : Bool) (idle at byte : ℕ) → IsSteady n (parted s s.steps (Some (cut_at w left requested))) → due_of (Some (cut_at w left requested)) ≡ due.Write at byte → LowersTo n (parted s s.steps (Some (cut_at w left requested))) idle (next m (parted s s.steps (Some (cut_at w left requested))) Write) 0
write_by n m s w [] requested idle at byte steady is = absurd (cc)
write_by n m s w (Puts one ∷ left) requested idle at byte steady is =
    let some = untaken_some w.took steady.walk.2 in
    let few = untaken_few w.took in
    let long : length w.took ≡ n = steady.walk.1 in
    let fresh = front_fresh n left requested (untaken w.took) (trapped s.cpus) some (omega (arith, few, long)) in
    record {
      fewer = omega (arith, fresh);
      steady = record {
        long = steady.long;
        some = steady.some;
        few = steady.few;
        run = steady.run;
        turn = steady.turn;
        walk = steady.walk;
      };
    }
write_by n m s w (Syncs ∷ left) true idle at byte steady is = absurd (cc)
write_by n m s w (Syncs ∷ left) false idle at byte steady is = absurd (cc)

-- an update that is open, or none is
write_open : (n : ℕ) (m : Module) (s : State) (o : Option Walk) (idle at byte : ℕ) → IsSteady n (parted s s.steps o) → due_of o ≡ due.Write at byte → LowersTo n (parted s s.steps o) idle (next m (parted s s.steps o) Write) 0
write_open n m s None idle at byte steady is = absurd (cc)
write_open n m s (Some w) idle at byte steady is = write_by n m s w w.left w.requested idle at byte steady is

pub write_lowers : (n : ℕ) (m : Module) (s : State) (idle at byte : ℕ) → IsSteady n s → due_of s.opened ≡ due.Write at byte → LowersTo n s idle (next m s Write) 0
write_lowers n m s idle at byte steady is = write_open n m s s.opened idle at byte steady is

request_by : (n : ℕ) (m : Module) (s : State) (w : Walk) (left : List Item) (requested : Bool) (idle : ℕ) → IsSteady n (parted s s.steps (Some (cut_at w left requested))) → due_of (Some (cut_at w left requested)) ≡ due.Request → LowersTo n (parted s s.steps (Some (cut_at w left requested))) idle (next m (parted s s.steps (Some (cut_at w left requested))) Request) 0
request_by n m s w [] requested idle steady is = absurd (cc)
request_by n m s w (Puts one ∷ left) requested idle steady is = absurd (cc)
request_by n m s w (Syncs ∷ left) true idle steady is = absurd (cc)
request_by n m s w (Syncs ∷ left) false idle steady is =
    let some = untaken_some w.took steady.walk.2 in
    let few = untaken_few w.took in
    let long : length w.took ≡ n = steady.walk.1 in
    record {
      fewer = omega (arith, some, few, long);
      steady = record {
        long = steady.long;
        some = steady.some;
        few = steady.few;
        run = steady.run;
        turn = steady.turn;
        walk = steady.walk;
      };
    }

request_open : (n : ℕ) (m : Module) (s : State) (o : Option Walk) (idle : ℕ) → IsSteady n (parted s s.steps o) → due_of o ≡ due.Request → LowersTo n (parted s s.steps o) idle (next m (parted s s.steps o) Request) 0
request_open n m s None idle steady is = absurd (cc)
request_open n m s (Some w) idle steady is = request_by n m s w w.left w.requested idle steady is

pub request_lowers : (n : ℕ) (m : Module) (s : State) (idle : ℕ) → IsSteady n s → due_of s.opened ≡ due.Request → LowersTo n s idle (next m s Request) 0
request_lowers n m s idle steady is = request_open n m s s.opened idle steady is

return_by : (n : ℕ) (m : Module) (s : State) (w : Walk) (left : List Item) (requested : Bool) (idle : ℕ) → IsSteady n (parted s s.steps (Some (cut_at w left requested))) → due_of (Some (cut_at w left requested)) ≡ due.Return → LowersTo n (parted s s.steps (Some (cut_at w left requested))) idle (next m (parted s s.steps (Some (cut_at w left requested))) Return) 0
return_by n m s w [] requested idle steady is =
    let none : s.turns ≡ 0 = steady.walk.0 in
    let same = steps_unused s.turns (drop 1 s.steps) none in
    record {
      fewer = omega (arith, same);
      steady = record {
        long = steady.long;
        some = steady.some;
        few = steady.few;
        run = steady.run;
        turn = turn_later s.steps steady.turn;
        walk = turns_fresh s.turns (drop 1 s.steps) none (turn_later s.steps steady.turn);
      };
    }
return_by n m s w (Puts one ∷ left) requested idle steady is = absurd (cc)
return_by n m s w (Syncs ∷ left) true idle steady is = absurd (cc)
return_by n m s w (Syncs ∷ left) false idle steady is = absurd (cc)

return_open : (n : ℕ) (m : Module) (s : State) (o : Option Walk) (idle : ℕ) → IsSteady n (parted s s.steps o) → due_of o ≡ due.Return → LowersTo n (parted s s.steps o) idle (next m (parted s s.steps o) Return) 0
return_open n m s None idle steady is = absurd (cc)
return_open n m s (Some w) idle steady is = return_by n m s w w.left w.requested idle steady is

pub return_lowers : (n : ℕ) (m : Module) (s : State) (idle : ℕ) → IsSteady n s → due_of s.opened ≡ due.Return → LowersTo n s idle (next m s Return) 0
return_lowers n m s idle steady is = return_open n m s s.opened idle steady is

-- ---- a taking

-- an update where a request waits, by what is left of the open chunk after it, and the later chunks
abbrev asked : Walk → List Item → List (List Change) → Walk
asked w left later = record w { left = Syncs ∷ left; later = later; requested = true }

-- a state in which a processor has taken the request
abbrev handed : State → ℕ → Cpu → Walk → State
handed s c q w = record s { opened = Some w; cpus = set s.cpus c q }

-- the last processor has taken it: the next phase is due
passed_lowers : (n : ℕ) (s : State) (w : Walk) (left : List Item) (later : List (List Change)) (idle c : ℕ) (q : Cpu) → IsSteady n (parted s s.steps (Some (asked w left later))) → RunsTrapped q → LowersTo n (parted s s.steps (Some (asked w left later))) idle (handed s c q (passed (asked w left later))) 0
passed_lowers n s w (item ∷ left) later idle c q steady runs =
    let long : length w.took ≡ n = steady.walk.1 in
    let all = untaken_nobody (length w.took) in
    let some : 1 ≤ n = steady.some in
    let fresh = front_fresh n (item ∷ left) false (untaken (nobody (length w.took))) (trapped (set s.cpus c q)) (omega (arith, all, long, some)) (omega (arith, all, long)) in
    record {
      fewer = omega (arith, fresh);
      steady = record {
        long = length-set s.cpus c q ∙ steady.long;
        some = steady.some;
        few = steady.few;
        run = run_set s.cpus c q steady.run runs;
        turn = steady.turn;
        walk = (steady.walk.0, length-replicate (length w.took) false ∙ long, nobody_unfinished (length w.took) (omega (arith, long, some)));
      };
    }
passed_lowers n s w [] (chunk ∷ later) idle c q steady runs =
    let long : length w.took ≡ n = steady.walk.1 in
    let all = untaken_nobody (length w.took) in
    let some : 1 ≤ n = steady.some in
    let fresh = front_fresh n (poke chunk) false (untaken (nobody (length w.took))) (trapped (set s.cpus c q)) (omega (arith, all, long, some)) (omega (arith, all, long)) in
    let both = items_cost-append n (poke chunk) (flat_map poke later) in
    record {
      fewer = omega (arith, fresh, both);
      steady = record {
        long = length-set s.cpus c q ∙ steady.long;
        some = steady.some;
        few = steady.few;
        run = run_set s.cpus c q steady.run runs;
        turn = steady.turn;
        walk = (steady.walk.0, length-replicate (length w.took) false ∙ long, nobody_unfinished (length w.took) (omega (arith, long, some)));
      };
    }
passed_lowers n s w [] [] idle c q steady runs =
    let long : length w.took ≡ n = steady.walk.1 in
    let some : 1 ≤ n = steady.some in
    record {
      fewer = omega arith;
      steady = record {
        long = length-set s.cpus c q ∙ steady.long;
        some = steady.some;
        few = steady.few;
        run = run_set s.cpus c q steady.run runs;
        turn = steady.turn;
        walk = (steady.walk.0, length-replicate (length w.took) false ∙ long, nobody_unfinished (length w.took) (omega (arith, long, some)));
      };
    }

-- another is still to take it
others_take : (n : ℕ) (s : State) (w : Walk) (left : List Item) (later : List (List Change)) (idle c : ℕ) (q : Cpu) → IsSteady n (parted s s.steps (Some (asked w left later))) → RunsTrapped q → suc (untaken (set w.took c true)) ≡ untaken w.took → list_all (λ t. t) (set w.took c true) ≡ false → LowersTo n (parted s s.steps (Some (asked w left later))) idle (handed s c q (record (asked w left later) { took = set w.took c true })) 0
others_take n s w left later idle c q steady runs less some =
    let one = untaken_some (set w.took c true) some in
    record {
      fewer = omega (arith, less, one);
      steady = record {
        long = length-set s.cpus c q ∙ steady.long;
        some = steady.some;
        few = steady.few;
        run = run_set s.cpus c q steady.run runs;
        turn = steady.turn;
        walk = (steady.walk.0, length-set w.took c true ∙ steady.walk.1, some);
      };
    }

taken_lowers : (n : ℕ) (s : State) (w : Walk) (left : List Item) (later : List (List Change)) (idle c : ℕ) (q : Cpu) → IsSteady n (parted s s.steps (Some (asked w left later))) → RunsTrapped q → suc (untaken (set w.took c true)) ≡ untaken w.took → LowersTo n (parted s s.steps (Some (asked w left later))) idle (handed s c q (taken c (asked w left later))) 0
taken_lowers n s w left later idle c q steady runs less = by (list_all (λ t. t) (set w.took c true)) refl
  where
    by : (b : Bool) → list_all (λ t. t) (set w.took c true) ≡ b → LowersTo n (parted s s.steps (Some (asked w left later))) idle (handed s c q (if b then passed (asked w left later) else record (asked w left later) { took = set w.took c true })) 0
    by true e = passed_lowers n s w left later idle c q steady runs
    by false e = others_take n s w left later idle c q steady runs less e

take_by : (n : ℕ) (m : Module) (s : State) (w : Walk) (left : List Item) (requested : Bool) (idle c : ℕ) → IsSteady n (parted s s.steps (Some (cut_at w left requested))) → MayTake (parted s s.steps (Some (cut_at w left requested))) c → LowersTo n (parted s s.steps (Some (cut_at w left requested))) idle (next m (parted s s.steps (Some (cut_at w left requested))) (Take c)) 0
take_by n m s w [] requested idle c steady may = let waits = may.waits in absurd (cc)
take_by n m s w (Puts one ∷ left) requested idle c steady may = let waits = may.waits in absurd (cc)
take_by n m s w (Syncs ∷ left) false idle c steady may = let waits = may.waits in absurd (cc)
take_by n m s w (Syncs ∷ left) true idle c steady may =
    let cpus : length s.cpus ≡ n = steady.long in
    let flags : length w.took ≡ n = steady.walk.1 in
    let within : c < length s.cpus = slice_get_within s.cpus c may.cpu may.here in
    let less = untaken_set w.took c (omega (arith, cpus, flags, within)) may.untaken in
    let here : State = parted s s.steps (Some (cut_at w (Syncs ∷ left) true)) in
    subst (λ (o : Option Cpu). LowersTo n here idle (at_cpu o here (took here c)) 0) (sym may.here)
    (taken_lowers n s w left w.later idle c (record may.cpu { mark = length s.writes }) steady (steady.run c may.cpu may.here) less)

take_open : (n : ℕ) (m : Module) (s : State) (o : Option Walk) (idle c : ℕ) → IsSteady n (parted s s.steps o) → MayTake (parted s s.steps o) c → LowersTo n (parted s s.steps o) idle (next m (parted s s.steps o) (Take c)) 0
take_open n m s None idle c steady may = let waits = may.waits in absurd (cc)
take_open n m s (Some w) idle c steady may = take_by n m s w w.left w.requested idle c steady may

pub take_lowers : (n : ℕ) (m : Module) (s : State) (idle c : ℕ) → IsSteady n s → MayTake s c → LowersTo n s idle (next m s (Take c)) 0
take_lowers n m s idle c steady may = take_open n m s s.opened idle c steady may

-- ---- a turn

-- after 16 events a turn comes only where a request waits, and then one is in the handler less
abbrev pub IsLate : Option Walk → List Cpu → List Cpu → ℕ → Type 0
IsLate opened cpus then_cpus idle =
    (w : Walk) → opened ≡ Some w → 16 ≤ idle → (due_of opened ≡ due.Wait) × (suc (trapped then_cpus) ≡ trapped cpus)

late_lowers : (n : ℕ) (w : Walk) (left : List Item) (requested : Bool) (idle t new : ℕ) → 16 ≤ idle → due_of (Some (cut_at w left requested)) ≡ due.Wait → suc new ≡ t → suc (front n left requested (untaken w.took) (idle + 1) new) ≤ front n left requested (untaken w.took) idle t
late_lowers n w [] requested idle t new late waits less = absurd (cc)
late_lowers n w (Puts one ∷ left) requested idle t new late waits less = absurd (cc)
late_lowers n w (Syncs ∷ left) false idle t new late waits less = absurd (cc)
late_lowers n w (Syncs ∷ left) true idle t new late waits less = front_late n left (untaken w.took) idle t new late less

open_lowers : (n : ℕ) (s : State) (w : Walk) (idle : ℕ) (cpus : List Cpu) → IsSteady n (parted s s.steps (Some w)) → length cpus ≡ n → IsLate (Some w) s.cpus cpus idle → suc (front n w.left w.requested (untaken w.took) (idle + 1) (trapped cpus)) ≤ front n w.left w.requested (untaken w.took) idle (trapped s.cpus)
open_lowers n s w idle cpus steady long late = by (cases_order idle 16)
  where
    late_by : 16 ≤ idle → suc (front n w.left w.requested (untaken w.took) (idle + 1) (trapped cpus)) ≤ front n w.left w.requested (untaken w.took) idle (trapped s.cpus)
    late_by from =
        late_lowers n w w.left w.requested idle (trapped s.cpus) (trapped cpus) from (late w refl from).0 (late w refl from).1

    by : (idle ≡ 16) ⊎ ((idle < 16) ⊎ (16 < idle)) → suc (front n w.left w.requested (untaken w.took) (idle + 1) (trapped cpus)) ≤ front n w.left w.requested (untaken w.took) idle (trapped s.cpus)
    by (inl same) = late_by (omega (arith, same))
    by (inr (inl early)) =
        let few = trapped_few cpus in
        let most : n ≤ 16 = steady.few in
        front_idle n w.left w.requested (untaken w.took) idle (trapped s.cpus) (trapped cpus) early (omega (arith, few, most, long))
    by (inr (inr more)) = late_by (omega (arith, more))

-- the state after a turn of the `run` line in front, where other processors are there
run_lowers : (n : ℕ) (s : State) (turns : ℕ) (rest : List ScriptStep) (idle : ℕ) (cpus : List Cpu) → IsSteady n (parted s (Run turns ∷ rest) None) → length cpus ≡ n → AllRun cpus → LowersTo n (parted s (Run turns ∷ rest) None) idle (record (used_of turns (parted s (Run turns ∷ rest) None) rest) { cpus = cpus }) (idle + 1)
run_lowers n s turns rest idle cpus steady long runs = by (s.turns + 1 == turns) refl
  where
    by : (b : Bool) → (s.turns + 1 == turns) ≡ b → LowersTo n (parted s (Run turns ∷ rest) None) idle (record (if b then record (parted s (Run turns ∷ rest) None) { steps = rest; turns = 0 } else record (parted s (Run turns ∷ rest) None) { turns = s.turns + 1 }) { cpus = cpus }) (idle + 1)
    by true e =
        let below : s.turns < turns = steady.walk in
        record {
          fewer = omega (arith, below);
          steady = record {
            long = long;
            some = steady.some;
            few = steady.few;
            run = runs;
            turn = steady.turn.1;
            walk = turns_fresh 0 rest refl steady.turn.1;
          };
        }
    by false e =
        let below : s.turns < turns = steady.walk in
        let other : s.turns + 1 ≡ turns → ⊥ = λ same. (let clash = (Decides-eqb (s.turns + 1) turns).1 same in absurd (cc)) in
        record {
          fewer = omega (arith, below);
          steady = record {
            long = long;
            some = steady.some;
            few = steady.few;
            run = runs;
            turn = steady.turn;
            walk = omega (arith, below, other);
          };
        }

turn_by : (n : ℕ) (s : State) (steps : List ScriptStep) (opened : Option Walk) (idle : ℕ) (cpus : List Cpu) → IsSteady n (parted s steps opened) → has_turns opened steps ≡ true → length cpus ≡ n → AllRun cpus → IsLate opened s.cpus cpus idle → LowersTo n (parted s steps opened) idle (record (used (parted s steps opened)) { cpus = cpus }) (idle + 1)
turn_by n s steps (Some w) idle cpus steady turn long runs late =
    let less = open_lowers n (parted s steps (Some w)) w idle cpus steady long late in
    record {
      fewer = omega (arith, less);
      steady = record {
        long = long;
        some = steady.some;
        few = steady.few;
        run = runs;
        turn = steady.turn;
        walk = steady.walk;
      };
    }
turn_by n s [] None idle cpus steady turn long runs late = absurd (cc)
turn_by n s (Update command ∷ rest) None idle cpus steady turn long runs late = absurd (cc)
turn_by n s (Run turns ∷ rest) None idle cpus steady turn long runs late = run_lowers n s turns rest idle cpus steady long runs
turn_by n s (Drop place ∷ rest) None idle cpus steady turn long runs late = absurd (cc)

pub turn_lowers : (n : ℕ) (s : State) (idle : ℕ) (cpus : List Cpu) → IsSteady n s → has_turns s.opened s.steps ≡ true → length cpus ≡ n → AllRun cpus → IsLate s.opened s.cpus cpus idle → LowersTo n s idle (record (used s) { cpus = cpus }) (idle + 1)
turn_lowers n s idle cpus steady turn long runs late = turn_by n s s.steps s.opened idle cpus steady turn long runs late
