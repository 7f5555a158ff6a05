-- The steps of an open update, in both machines.
use Rattle.std.proofs.Common.{◌≡◌, ◌∙◌, ℕ, false, List, [], ◌∷◌, ◌++◌, length, drop, All, Option, Some, None, slice_get, slice_set, refl, sym, ap, subst}
use Rattle.std.proofs.lemmas.List.Elements.{All-tail}
use Rattle.insn_forms.specs.declared.forms.Change.{Change}
use Rattle.insn_forms.specs.Write.{Write}
use Rattle.poke_batch.specs.declared.batch.Due.{Due}
use Rattle.poke_batch.specs.declared.batch.Due.TheVariants as due
use Rattle.poke_batch.specs.Walk.{Walk, due_of, taken}
use Rattle.module_image.specs.Module.{IsAccepted, Module}
use Rattle.run_journal.specs.declared.event.Event.TheVariants as event
use Rattle.script_text.specs.declared.script.ScriptStep.{ScriptStep}
use Rattle.script_text.specs.Laws.{IsStepOf}
use Rattle.switching.specs.May.{MayTake, MayWrite}
use Rattle.switching.specs.Next.{at_cpu, moved_on, next, taken_by, took, wrote}
use Rattle.switching.specs.Said.{said_return}
use Rattle.switching.specs.State.{Cpu, State}
use Rattle.switching.specs.Switching.{NeedsReturn, Switching, returned, with_new, without_runs}
use Rattle.switching.specs.Switching as switching
use Rattle.switching.proofs.Invariant.{CpuPair, Opened, Related, Stands, open_changes, steps_left}
use Rattle.switching.proofs.Lookups.{AtSet, at_it, beside_it, at_set}
use Rattle.switching.proofs.Patching.{after_request, after_write}
use Rattle.switching.proofs.Taking.{after_return, after_take, taken-changes}
use Rattle.switching.proofs.Turns.{Follows}

-- a step of the update changes nothing in the switching machine
related_step : (m : Module) (s : State) (t : Switching) (u v : Walk) (ws : List Write) (cpus : List Cpu) (opened : Option Walk) → Related m s t → s.opened ≡ Some u → opened ≡ Some v → v.changes ≡ u.changes → ((c : ℕ) (p : Cpu) → slice_get cpus c ≡ Some p → CpuPair m t.procs c p) → Opened m ws cpus s.states t.forms t.passed v → Related m (record s { writes = ws; opened = opened; cpus = cpus }) t
related_step m s t u v ws cpus opened h was is same pair o = record {
  steps =
      h.steps ∙ ap (λ (o : Option Walk). without_runs (steps_left o s.steps)) was
      ∙ ap (λ (o : Option Walk). without_runs (steps_left o s.steps)) (sym is);
  steps_of = h.steps_of;
  updates = h.updates;
  states = h.states;
  states_of = h.states_of;
  opened =
      h.opened ∙ ap open_changes was ∙ ap (λ (cs : List Change). Some cs) (sym same) ∙ ap open_changes (sym is);
  pair = pair;
  stands = subst (λ (o : Option Walk). Stands m ws cpus s.states t.forms t.passed o) (sym is) o;
}

module _ (m : Module) (s : State) (t : Switching) (accepted : IsAccepted m) (h : Related m s t) where
  opened_is : (u : Walk) → s.opened ≡ Some u → Opened m s.writes s.cpus s.states t.forms t.passed u
  opened_is u is = subst (λ (o : Option Walk). Stands m s.writes s.cpus s.states t.forms t.passed o) is h.stands

  -- a write
  kept_write : (o : Option Walk) (at byte : ℕ) → s.opened ≡ o → due_of o ≡ due.Write at byte → Related m (wrote s (due.Write at byte)) t
  kept_write None at byte is is_due = absurd (cc)
  kept_write (Some u) at byte is is_due =
      let step = after_write m s.writes s.cpus s.states t.forms t.passed u accepted h.states_of (opened_is u is) at byte is_due in
      related_step m s t u step.0 (s.writes ++ record { at = at; byte = byte } ∷ []) s.cpus (moved_on s.opened) h is (ap moved_on is ∙ step.1) step.2 h.pair step.3

  pub follows_write : MayWrite s → Follows m s t event.Write
  follows_write may = record {
    needs = tt;
    lines = refl;
    kept = subst (λ (d : Due). Related m (wrote s d) t) (sym may.is_due) (kept_write s.opened may.at may.byte refl may.is_due);
  }

  -- a request
  kept_request : (o : Option Walk) → s.opened ≡ o → due_of o ≡ due.Request → Related m (record s { opened = moved_on s.opened }) t
  kept_request None is is_due = absurd (cc)
  kept_request (Some u) is is_due =
      let step = after_request m s.writes s.cpus s.states t.forms t.passed u accepted h.states_of (opened_is u is) is_due in
      related_step m s t u step.0 s.writes s.cpus (moved_on s.opened) h is (ap moved_on is ∙ step.1) step.2 h.pair step.3

  pub follows_request : due_of s.opened ≡ due.Request → Follows m s t event.Request
  follows_request may = record { needs = tt; lines = refl; kept = kept_request s.opened refl may }

  -- the request is taken
  kept_take : (o : Option Walk) (c : ℕ) (p : Cpu) → s.opened ≡ o → due_of o ≡ due.Wait → slice_get s.cpus c ≡ Some p → p.state.trapped ≡ false → Related m (took s c p) t
  kept_take None c p is waits here free = absurd (cc)
  kept_take (Some u) c p is waits here free =
      related_step m s t u (taken c u) s.writes (slice_set s.cpus c p') (taken_by c s.opened) h is (ap (taken_by c) is) (taken-changes c u) pair
      (after_take m s.writes s.cpus s.states t.forms t.passed u c p accepted h.states_of waits here free (opened_is u is))
    where
      p' : Cpu
      p' = record p { mark = length s.writes }

      by : (i : ℕ) (q : Cpu) → AtSet s.cpus c p' i q → CpuPair m t.procs i q
      by i q (at_it same is_p) =
          let old = h.pair c p here in
          subst (λ (x : Cpu). CpuPair m t.procs i x) (sym is_p)
          (subst (λ (k : ℕ). CpuPair m t.procs k p') (sym same) (record { proc = old.proc; here = old.here; like = old.like; flows = old.flows }))
      by i q (beside_it other there) = h.pair i q there

      pair : (i : ℕ) (q : Cpu) → slice_get (slice_set s.cpus c p') i ≡ Some q → CpuPair m t.procs i q
      pair i q there = by i q (at_set s.cpus c p' i q there)

  pub follows_take : (c : ℕ) → MayTake s c → Follows m s t (event.Take c)
  follows_take c may = record {
    needs = tt;
    lines = refl;
    kept = subst (λ (o : Option Cpu). Related m (at_cpu o s (took s c)) t) (sym may.here) (kept_take s.opened c may.cpu refl may.waits may.here may.free);
  }

  -- the return
  by_return : (o : Option Walk) → s.opened ≡ o → due_of o ≡ due.Return → Follows m s t event.Return
  by_return None is is_due = absurd (cc)
  by_return (Some u) is is_due =
      let done = after_return m s.writes s.cpus s.states t.forms t.passed u accepted h.states_of is_due (opened_is u is) in
      let closed : moved_on s.opened ≡ None = ap moved_on is ∙ done.0 in
      let changes : t.opened ≡ Some u.changes = h.opened ∙ ap open_changes is in
      record {
        needs = record { changes = u.changes; is = changes };
        lines =
            ap (λ (o : Option Walk). said_return s.updates o) is
            ∙ ap (λ (n : ℕ). switching.said_return n (Some u.changes)) (sym h.updates)
            ∙ ap (λ (o : Option (List Change)). switching.said_return t.updates o) (sym changes);
        kept = subst (λ (o : Option (List Change)). Related m (next m s event.Return) (returned t o)) (sym changes) (record {
          steps =
              h.steps ∙ ap (λ (o : Option Walk). without_runs (steps_left o s.steps)) is
              ∙ ap (λ (o : Option Walk). without_runs (steps_left o (drop 1 s.steps))) (sym closed);
          steps_of = dropped s.steps h.steps_of;
          updates = h.updates;
          states = h.states;
          states_of = h.states_of;
          opened = ap open_changes (sym closed);
          pair = h.pair;
          stands = subst (λ (o : Option Walk). Stands m s.writes s.cpus s.states (with_new u.changes t.forms) [] o) (sym closed) done.1;
        });
      }
    where
      dropped : (steps : List ScriptStep) → All (IsStepOf m) steps → All (IsStepOf m) (drop 1 steps)
      dropped [] all = all
      dropped (step ∷ steps) all = All-tail (IsStepOf m) step steps all

  pub follows_return : due_of s.opened ≡ due.Return → Follows m s t event.Return
  follows_return may = by_return s.opened refl may
