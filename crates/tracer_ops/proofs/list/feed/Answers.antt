use Rattle.std.proofs.Common.{rules}
use Rattle.tracer_ops.proofs.Feeding.{AreFed-more}
use Rattle.tracer_ops.proofs.list.feed.Goals as goal

pub loop-place-preserved : goal.loop-place-preserved
loop-place-preserved g c = AreFed-more _ c.loop-place.tracers.items _ c.loop-place.place c.args.site c.index_mut.result.now c.hit_one.new.tracer (search rules) c.index_mut.ensures.value c.loop-place.invariant c.hit_one.ensures
