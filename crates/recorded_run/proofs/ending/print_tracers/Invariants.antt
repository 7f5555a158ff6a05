use Rattle.std.proofs.Common.{map}
use Rattle.recorded_run.proofs.TracerLines.{TotalsPrinted}
use Rattle.recorded_run.proofs.ending.print_tracers.Given as goal

abbrev pub invariant-loop-place : goal.invariant-loop-place
invariant-loop-place g l =
    TotalsPrinted (map (λ b. (goal.Tracer-dyn g (b.vtable, b.value)).meaning b.value) l.tracers.items) l.place
    (g.H.Host.outside l.initial.host) (g.H.Host.outside l.host)
