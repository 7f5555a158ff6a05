use Rattle.std.proofs.Common.{◌≡◌, ◌<◌, ◌∙◌, ℕ, false, map, sym, subst, take}
use Rattle.poke_batch.specs.Inside.{change_of, state_of}
use Rattle.poke_batch.specs.Walk.{BatchState, due_of, has_taken}
use Rattle.poke_batch.proofs.Fields.{chunk_inside, chunk_of, chunk_spelt, due_is}
use Rattle.poke_batch.proofs.Flags.{lacking}
use Rattle.poke_batch.proofs.batch.Batch.due.Goals as goal

pub due-requires-clause-inside : goal.due-requires-clause-inside
due-requires-clause-inside c =
    chunk_inside c.self.inside.progress.from c.self.inside.progress.stage c.self.inside.patches.items c.deref.result.now c.chunk-chunk.result.now c.deref.ensures.value c.chunk-chunk.ensures c.self.invariant.inside

pub due-requires-clause-spelt : goal.due-requires-clause-spelt
due-requires-clause-spelt c =
    chunk_spelt c.self.inside.progress.from c.self.inside.patches.items c.deref.result.now c.chunk-chunk.result.now c.deref.ensures.value c.chunk-chunk.ensures c.self.invariant.spelt

-- what is due of the update that the fields stand for
due : (c : goal.After-due) → c.due.result ≡ due_of (state_of c.self.inside).update
due c =
    due_is c.self.inside.progress.from c.self.inside.progress.stage (map change_of c.self.inside.patches.items) (map change_of c.chunk-chunk.result.now) (take c.self.inside.cpus c.self.inside.acks) c.due.result c.due.ensures
    (chunk_of c.self.inside.progress.from c.self.inside.patches.items c.deref.result.now c.chunk-chunk.result.now c.deref.ensures.value c.chunk-chunk.ensures)

pub returns-clause-due : goal.returns-clause-due
returns-clause-due c =
    subst (λ (b : BatchState). c.due.result ≡ due_of b.update) c.self.view_is (due c)

pub returns-clause-lacks : goal.returns-clause-lacks
returns-clause-lacks c waits =
    subst (λ (b : BatchState). (cpu : ℕ) × (cpu < b.cpus) × (has_taken b.update cpu ≡ false)) c.self.view_is
    (lacking c.self.inside.cpus (state_of c.self.inside).update c.self.invariant.underway (sym (due c) ∙ waits))
