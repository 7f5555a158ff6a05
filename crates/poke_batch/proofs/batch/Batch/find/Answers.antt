use Rattle.std.proofs.Common.{◌≡◌, map, subst, take}
use Rattle.poke_batch.specs.Inside.{change_of}
use Rattle.poke_batch.specs.Walk.{BatchState, open_form}
use Rattle.poke_batch.proofs.Fields.{active_of, chunk_ascends, chunk_of, form_is, open_apart}
use Rattle.poke_batch.proofs.batch.Batch.find.Goals as goal

pub form_at-requires : goal.form_at-requires
form_at-requires c =
    chunk_ascends c.self.inside.progress.from c.self.inside.patches.items c.deref.result.now c.chunk.result.now c.deref.ensures.value c.chunk.ensures
    (open_apart c.self.inside.cpus c.self.inside.progress (map change_of c.self.inside.patches.items) (take c.self.inside.cpus c.self.inside.acks) c.self.invariant.underway (active_of c.self.inside.progress.stage c.in_default.not-Idle))

pub returns-clause-found : goal.returns-clause-found
returns-clause-found c =
    subst (λ (b : BatchState). c.form_at.result ≡ open_form b.update c.args.at) c.self.view_is
    (form_is c.self.inside.progress (map change_of c.self.inside.patches.items) (map change_of c.chunk.result.now) (take c.self.inside.cpus c.self.inside.acks) c.args.at c.form_at.result c.form_at.ensures
    (chunk_of c.self.inside.progress.from c.self.inside.patches.items c.deref.result.now c.chunk.result.now c.deref.ensures.value c.chunk.ensures)
    (active_of c.self.inside.progress.stage c.in_default.not-Idle))
