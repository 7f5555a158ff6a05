-- What every state that a legal prefix leads to has.
use Rattle.std.proofs.Common.{◌≡◌, ◌∙◌, ◌+◌, ◌<◌, ◌≤◌, ℕ, zero, suc, Bool, true, false, if◌then◌else◌, List, [], ◌∷◌, ◌++◌, length, map, sum, drop, All, Contains, Option, Some, None, Result, Ok, Err, slice_get, refl, sym, ap, subst, arith, inl}
use Rattle.std.proofs.lemmas.List.Elements.{All-head}
use Rattle.x64_subset.specs.declared.proc.Proc.{Proc}
use Rattle.insn_forms.specs.declared.forms.Change.{Change}
use Rattle.insn_forms.specs.Spelling.{size}
use Rattle.insn_forms.specs.Write.{Write}
use Rattle.key_state.specs.After.{after}
use Rattle.key_state.specs.Changes.{AreStatesOf, changes}
use Rattle.key_state.proofs.Keeping.{commands_keep}
use Rattle.key_state.proofs.Poking.{can_poke}
use Rattle.module_parts.specs.declared.command.Command.{Command}
use Rattle.module_image.specs.Module.{IsAccepted, Module, States}
use Rattle.module_image.proofs.Lent.{sites_laid_out}
use Rattle.poke_batch.specs.declared.batch.Due.TheVariants as due
use Rattle.poke_batch.specs.Clash.{CanPoke}
use Rattle.poke_batch.specs.Walk.{Walk, due_at, due_of}
use Rattle.run_journal.specs.declared.event.Event.{Event}
use Rattle.run_journal.specs.declared.event.Event.TheVariants.{Begin, Write as WriteEvent, Request, Take, Return, Plain, At, Handle, Tick}
use Rattle.script_text.specs.declared.script.ScriptStep.{ScriptStep}
use Rattle.script_text.specs.declared.script.ScriptStep.TheVariants as step
use Rattle.script_text.specs.Laws.{IsScriptOf, IsStepOf}
use Rattle.script_text.specs.Script.{ScriptValue, all_updates, most_updates, update_count}
use Rattle.switching.specs.Beginning.{Beginning, Goes, Refuses, beginning, clash_of_foreign}
use Rattle.switching.specs.Journal.{IsLegalSoFar, after as after_events}
use Rattle.switching.specs.Laws.{IsReached}
use Rattle.switching.specs.May.{May}
use Rattle.switching.specs.Next.{next}
use Rattle.switching.specs.State.{Cpu, State, first, text_end}
use Rattle.switching.specs.StateLaws.{CanChangeTo, DuesAreInside, IsReady, StatesAreReady, TurnsAreLeft, UpdatesCanBegin}
use Rattle.switching.specs.Switching.{Switching, PassKind, at_proc, begun, begun_by, found, is_breakpoint, new_pass, pass_of, passes, plain_done, returned, with_proc, without_runs}
use Rattle.switching.specs.Switching as switching
use Rattle.switching.proofs.ChoiceBound.{sum_more}
use Rattle.switching.proofs.ChoiceEnd.{event_lowers}
use Rattle.switching.proofs.ChoiceSteady.{IsSteady, TurnsFit, WalkFits, changes_few, steady_first}
use Rattle.switching.proofs.Holding.{held_length, held_list, same_held}
use Rattle.switching.proofs.Invariant.{Opened, Related, Stands, joined}
use Rattle.switching.proofs.Parts.{all_changed, in_chunk, poked}
use Rattle.switching.proofs.Patching.{write_due}
use Rattle.switching.proofs.Reached.{opened_at, reached}
use Rattle.switching.proofs.Rounds.{IsOf, round, round_of}
use Rattle.switching.proofs.Theorem.{first_related, switched}
use Rattle.switching.proofs.Writes.{has_contains, has_right, Has}

-- ---- a byte that is due

has_todo : (done more : List Write) (todo : List Write) (w : Write) (all : List Write) → all ≡ done ++ todo → todo ≡ w ∷ more → Has all w
has_todo done more todo w all split is =
    subst (λ (ws : List Write). Has ws w) (sym (split ∙ ap (λ (ws : List Write). done ++ ws) is)) (has_right done (w ∷ more) w (inl refl))

dues_of : (m : Module) (s : State) (t : Switching) → IsAccepted m → Related m s t → (opened : Option Walk) → s.opened ≡ opened → DuesAreInside m opened
dues_of m s t accepted h None is at byte e = absurd (cc)
dues_of m s t accepted h (Some u) is at byte e =
    let o = opened_at m s t u h is in
    let due_is = write_due o.place.r u.chunk o.place.todo u.requested at byte (ap (λ left. due_at left u.requested) (sym o.place.left_is) ∙ e) in
    let pokes = poked m s.states u.changes o.finished u.chunk (joined u.later) accepted h.states_of o.parts in
    let of : IsOf o.place.r u.chunk due_is.write = round_of o.place.r u.chunk due_is.write pokes
    (has_todo o.place.done due_is.more o.place.todo due_is.write (round o.place.r u.chunk) o.place.split due_is.todo_is) in
    let changed = all_changed m s.states u.changes o.finished u.chunk (joined u.later) accepted h.states_of o.parts of.change
    (in_chunk m s.states u.changes o.finished u.chunk (joined u.later) accepted h.states_of o.parts of.change (has_contains u.chunk of.change of.has)) in
    let from : m.base ≤ of.change.at = changed.from in
    let to : of.change.at + size of.change.old ≤ text_end m = changed.to in
    let place : of.place < size of.change.old = of.below in
    let there : due_is.write.at ≡ of.change.at + of.place = of.at in
    let is_at : due_is.write.at ≡ at = due_is.at_is in
    (omega (arith, from, there, is_at), omega (arith, to, place, there, is_at))

-- ---- updates that begin

begins_of : (m : Module) (s : State) → IsAccepted m → AreStatesOf m s.states → All (IsStepOf m) s.steps → UpdatesCanBegin m s
begins_of m s accepted states steps command rest new closed front is =
    let of = All-head (IsStepOf m) (step.Update command) rest (subst (λ (xs : List ScriptStep). All (IsStepOf m) xs) front steps) in
    let kept = commands_keep m s.states new command accepted states of is in
    record {
      poke = subst (λ (f : ℕ → Option ℕ). CanPoke f (changes m s.states new)) (sym (same_held m s.writes)) (can_poke m s.states new (held_list m s.writes) accepted states kept (held_length m s.writes));
      few = changes_few m s.states new;
    }

-- ---- turns that are left

steady_after : (n : ℕ) (m : Module) (s : State) (events : List Event) → length m.sites ≤ 1024 → IsSteady n s → IsLegalSoFar m s events → IsSteady n (after_events m s events)
steady_after n m s [] few steady legal = steady
steady_after n m s (e ∷ events) few steady legal =
    steady_after n m (next m s e) events few
    (event_lowers n m s 0 e few steady legal.0 (λ w opened late. absurd (omega (arith, late)))).steady legal.1

turns_fit : (used : ℕ) (steps : List ScriptStep) → TurnsFit used steps → TurnsAreLeft used steps
turns_fit used [] fit = fit
turns_fit used (step.Update command ∷ rest) fit = fit
turns_fit used (step.Run turns ∷ rest) fit = fit
turns_fit used (step.Drop place ∷ rest) fit = fit

turns_of : (n : ℕ) (s : State) → IsSteady n s → s.opened ≡ None → TurnsAreLeft s.turns s.steps
turns_of n s steady closed =
    turns_fit s.turns s.steps (subst (λ (o : Option Walk). WalkFits n o s.turns s.steps) closed steady.walk)

-- ---- how many updates have begun: with those that haven't, as many as the script has

abbrev total : Switching → ℕ
total t = t.updates + all_updates t.steps

total_begun : (t : Switching) (b : Beginning) → total (begun t b) ≡ t.updates + 1 + all_updates t.steps
total_begun t (Refuses ending) = refl
total_begun t (Goes new []) = refl
total_begun t (Goes new (c ∷ changes)) = refl

one_update : (command : Command) (rest : List ScriptStep) → all_updates (step.Update command ∷ rest) ≡ 1 + all_updates rest
one_update command rest = sum_more update_count (step.Update command) rest

no_update_run : (turns : ℕ) (rest : List ScriptStep) → all_updates (step.Run turns ∷ rest) ≡ all_updates rest
no_update_run turns rest = sum_more update_count (step.Run turns) rest ∙ omega arith

no_update_drop : (place : ℕ) (rest : List ScriptStep) → all_updates (step.Drop place ∷ rest) ≡ all_updates rest
no_update_drop place rest = sum_more update_count (step.Drop place) rest ∙ omega arith

total_begin : (m : Module) (t : Switching) (steps : List ScriptStep) → total (begun_by (record t { steps = drop 1 steps }) (found m t steps)) ≡ t.updates + all_updates steps
total_begin m t [] = refl
total_begin m t (step.Update command ∷ rest) =
    total_begun (record t { steps = rest }) (beginning m (clash_of_foreign m) t.states command)
    ∙ (let more = one_update command rest in omega (arith, more))
total_begin m t (step.Run turns ∷ rest) = ap (λ (n : ℕ). t.updates + n) (sym (no_update_run turns rest))
total_begin m t (step.Drop place ∷ rest) = ap (λ (n : ℕ). t.updates + n) (sym (no_update_drop place rest))

total_returned : (t : Switching) (o : Option (List Change)) → total (returned t o) ≡ total t
total_returned t None = refl
total_returned t (Some changes) = refl

total_at : (o : Option Proc) (t : Switching) (f : Proc → Switching) → ((p : Proc) → total (f p) ≡ total t) → total (at_proc o t f) ≡ total t
total_at None t f each = refl
total_at (Some p) t f each = each p

total_site : (t : Switching) (trap : Bool) (o : Option Proc) (f : Proc → Switching) → ((p : Proc) → total (f p) ≡ total t) → total (if trap then t else at_proc o t f) ≡ total t
total_site t true o f each = refl
total_site t false o f each = total_at o t f each

total_next : (m : Module) (t : Switching) (e : Event) → total (switching.next m t e) ≡ total t
total_next m t Begin = total_begin m t t.steps
total_next m t WriteEvent = refl
total_next m t Request = refl
total_next m t (Take c) = refl
total_next m t Return = total_returned t t.opened
total_next m t (Plain c) = total_at (slice_get t.procs c) t _ (λ p. refl)
total_next m t (At c bytes) = total_site t (is_breakpoint bytes.items) (slice_get t.procs c) _ (λ p. refl)
total_next m t (Handle c) = total_at (slice_get t.procs c) t _ (λ p. refl)
total_next m t (Tick c) = refl

total_after : (m : Module) (t : Switching) (events : List Event) → total (switching.after m t events) ≡ total t
total_after m t [] = refl
total_after m t (e ∷ events) = total_after m (switching.next m t e) events ∙ total_next m t e

updates_without : (steps : List ScriptStep) → all_updates (without_runs steps) ≡ all_updates steps
updates_without [] = refl
updates_without (step.Update command ∷ rest) =
    one_update command (without_runs rest) ∙ ap (λ (n : ℕ). 1 + n) (updates_without rest) ∙ sym (one_update command rest)
updates_without (step.Run turns ∷ rest) = updates_without rest ∙ sym (no_update_run turns rest)
updates_without (step.Drop place ∷ rest) =
    no_update_drop place (without_runs rest) ∙ updates_without rest ∙ sym (no_update_drop place rest)

updates_of : (m : Module) (s : State) → IsReached m s → s.updates ≤ most_updates
updates_of m s r =
    let t = switching.after m (switching.first m r.script) r.events in
    let h = (switched m (first m r.script) (switching.first m r.script) r.events r.accepted (first_related m r.script r.accepted r.is_script) r.legal).related in
    let same : t.updates ≡ (after_events m (first m r.script) r.events).updates = h.updates in
    let is : s.updates ≡ (after_events m (first m r.script) r.events).updates = ap (λ (x : State). x.updates) r.is in
    let all : total t ≡ total (switching.first m r.script) = total_after m (switching.first m r.script) r.events in
    let without : all_updates (without_runs r.script.steps) ≡ all_updates r.script.steps = updates_without r.script.steps in
    let few : all_updates r.script.steps ≤ most_updates = r.is_script.limits.few_updates in
    omega (arith, same, is, all, without, few)

-- ---- all of it

pub states_ready : StatesAreReady
states_ready m s r =
    let t = (reached m s r).0 in
    let h = (reached m s r).1 in
    let steady = subst (λ (x : State). IsSteady (length r.script.entries) x) (sym r.is)
    (steady_after (length r.script.entries) m (first m r.script) r.events (sites_laid_out m r.accepted).few (steady_first m r.script r.is_script) r.legal) in
    record {
      states = h.states_of;
      steps = h.steps_of;
      updates = updates_of m s r;
      turns = turns_of (length r.script.entries) s steady;
      dues = dues_of m s t r.accepted h s.opened refl;
      begins = begins_of m s r.accepted h.states_of h.steps_of;
    }
