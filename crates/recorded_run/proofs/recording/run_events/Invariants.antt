use Rattle.std.proofs.Common.{map}
use Rattle.recorded_run.proofs.Runs.{HasRun}
use Rattle.recorded_run.proofs.recording.run_events.Given as goal

abbrev pub invariant-loop : goal.invariant-loop
invariant-loop g l =
    HasRun l.initial.world.image l.initial.world.script l.initial.words (map (λ b. (goal.Tracer-dyn g (b.vtable, b.value)).meaning b.value) l.initial.tracers.items)
    (g.H.Host.outside l.initial.host) l.world l.words
    (record { tracers = map (λ b. (goal.Tracer-dyn g (b.vtable, b.value)).meaning b.value) l.tracers.items; drops = l.drops.items })
    (g.H.Host.outside l.host) l.counter
