use Rattle.std.proofs.Common.{length, map}
use Rattle.switching.specs.State.{first}
use Rattle.recorded_run.specs.Underway.{IsUnderway}
use Rattle.recorded_run.proofs.replaying.replay_events.Given as goal

abbrev pub invariant-loop-event : goal.invariant-loop-event
invariant-loop-event g l =
    IsUnderway l.initial.world.image (first l.initial.world.image l.initial.world.script) l.journal
    (map (λ b. (goal.Tracer-dyn g (b.vtable, b.value)).meaning b.value) l.initial.tracers.items) l.reader l.world
    (record { tracers = map (λ b. (goal.Tracer-dyn g (b.vtable, b.value)).meaning b.value) l.tracers.items; drops = l.drops.items })
    (g.H.Host.outside l.initial.host) (g.H.Host.outside l.host)

abbrev pub decreases-loop-event : goal.decreases-loop-event
decreases-loop-event g l = length l.reader.rest
