use Rattle.std.proofs.Common.{map}
use Rattle.tracer_ops.proofs.Feeding.{AreFed}
use Rattle.tracer_ops.proofs.list.feed.Given as goal

abbrev pub invariant-loop-place : goal.invariant-loop-place
invariant-loop-place g l = AreFed l.place l.site (map (λ b. (goal.Tracer-dyn g (b.vtable, b.value)).meaning b.value) l.tracers.items) (map (λ b. (goal.Tracer-dyn g (b.vtable, b.value)).meaning b.value) l.initial.tracers.items)
