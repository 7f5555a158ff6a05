use Rattle.std.proofs.Common.{◌≡◌, ◌∙◌, IfSome, List, ap, false, map, subst, sym, take}
use Rattle.insn_forms.specs.declared.forms.Change.{Change}
use Rattle.poke_batch.specs.declared.stage.Stage.{Stage}
use Rattle.poke_batch.specs.Inside.{change_of, chunk_at, state_of}
use Rattle.poke_batch.specs.Stage.{IsInside, after_due, is_idle, is_requested}
use Rattle.poke_batch.specs.Underway.{IsUnderway}
use Rattle.poke_batch.specs.Walk.{moved}
use Rattle.poke_batch.proofs.Fields.{after_due_active, after_due_unasked, chunk_inside, chunk_of, chunk_whole, step_is, step_underway_of}
use Rattle.poke_batch.proofs.Progresses.{inside_after_due, state_steps}
use Rattle.poke_batch.proofs.Underways.{last_of, nobody_at_request}
use Rattle.poke_batch.proofs.Walks.{moved-requests, moved-returns, moved-writes}
use Rattle.poke_batch.proofs.batch.Batch.took.Goals as goal

pub after_due-self-inside-requires : goal.after_due-self-inside-requires
after_due-self-inside-requires c =
    chunk_inside c.self.inside.progress.from c.self.inside.progress.stage c.self.inside.patches.items c.deref.result.now c.chunk-chunk.result.now c.deref.ensures.value c.chunk-chunk.ensures c.self.invariant.inside

-- the stage after the due write, request or return
next : (c : goal.After-self-1) → c.after_due-self-inside.result ≡ after_due (chunk_at c.self.inside.progress.from (map change_of c.self.inside.patches.items)) c.self.inside.progress.stage
next c =
    c.after_due-self-inside.ensures
    ∙ ap (λ (chunk : List Change). after_due chunk c.self.inside.progress.stage) (chunk_of c.self.inside.progress.from c.self.inside.patches.items c.deref.result.now c.chunk-chunk.result.now c.deref.ensures.value c.chunk-chunk.ensures)

-- the update after it
step : (c : goal.After-self-1) → IfSome (state_of c.self.inside).update (λ walk. (state_of (record c.self.inside { progress = record c.self.inside.progress { stage = c.after_due-self-inside.result } })).update ≡ moved walk)
step c =
    step_is c.self.inside.progress.from c.self.inside.progress.stage c.after_due-self-inside.result c.self.inside.patches.items (take c.self.inside.cpus c.self.inside.acks) c.self.invariant.inside c.self.invariant.spelt (next c)

-- it is sound
underway : (c : goal.After-self-1) → IfSome (state_of (record c.self.inside { progress = record c.self.inside.progress { stage = c.after_due-self-inside.result } })).update (IsUnderway c.self.inside.cpus)
underway c =
    step_underway_of c.self.inside.cpus c.self.inside.progress.from c.self.inside.progress.stage c.after_due-self-inside.result (map change_of c.self.inside.patches.items) (take c.self.inside.cpus c.self.inside.acks) (next c) (step c) c.self.invariant.underway

pub invariant_of-self : goal.invariant_of-self
invariant_of-self c =
    let chunk : List Change = chunk_at c.self.inside.progress.from (map change_of c.self.inside.patches.items) in
    record {
      some_cpus = c.self.invariant.some_cpus;
      most_cpus = c.self.invariant.most_cpus;
      room = c.self.invariant.room;
      spelt = c.self.invariant.spelt;
      from = c.self.invariant.from;
      within = λ active. c.self.invariant.within (after_due_active chunk c.self.inside.progress.stage (subst (λ (s : Stage). is_idle s ≡ false) (next c) active));
      inside =
          subst (λ (s : Stage). IsInside chunk s) (sym (next c))
          (inside_after_due chunk c.self.inside.progress.stage c.self.invariant.inside (chunk_whole c.self.inside.progress.from c.self.inside.patches.items c.self.invariant.spelt));
      unasked = λ unasked. c.self.invariant.unasked (after_due_unasked chunk c.self.inside.progress.stage (subst (λ (s : Stage). is_requested s ≡ false) (next c) unasked));
      underway = underway c;
    }

pub returns-clause-step : goal.returns-clause-step
returns-clause-step c =
    rw (← c.self.view_is) (state_steps (state_of c.self.inside) _ moved (step c))

pub returns-clause-wrote : goal.returns-clause-wrote
returns-clause-wrote c = rw (← c.self.view_is) (λ w. moved-writes _ _ w (step c))

pub returns-clause-requested : goal.returns-clause-requested
returns-clause-requested c = rw (← c.self.view_is) (moved-requests _ _ (step c))

pub returns-clause-returned : goal.returns-clause-returned
returns-clause-returned c =
    rw (← c.self.view_is) (moved-returns _ _ (step c) (last_of c.self.inside.cpus (state_of c.self.inside).update c.self.invariant.underway))

pub returns-clause-nobody : goal.returns-clause-nobody
returns-clause-nobody c =
    rw (← c.self.view_is) (nobody_at_request c.self.inside.cpus _ _ (step c) c.self.invariant.underway)

pub returns-clause-underway : goal.returns-clause-underway
returns-clause-underway c = underway c
