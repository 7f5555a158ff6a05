use Rattle.live_engine.proofs.Chunks.{chunk-added, some-left}
use Rattle.live_engine.proofs.plan.push_chunks.Goals as goal

pub loop-rest-preserved : goal.loop-rest-preserved
loop-rest-preserved c =
    chunk-added (λ chunk. chunk.items) c.loop-rest.all.items c.push.new.self.items c.in_ok-from_slice.field-0 c.loop-rest.rest.now c.split_at.result.0.now c.split_at.result.1.now _ c.min.result
    c.in_ok-push.ensures.items c.in_ok-from_slice.ensures.items c.split_at.ensures.front c.split_at.ensures.back c.min.ensures (some-left c.loop-rest.rest.now (rw c.is_empty.ensures at c.loop-rest-test.true)) c.loop-rest.invariant
