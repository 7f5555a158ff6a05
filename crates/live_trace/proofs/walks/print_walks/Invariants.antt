use Rattle.live_trace.proofs.WalkLines.{WalksPrinted}
use Rattle.live_trace.proofs.walks.print_walks.Given as goal

abbrev pub invariant-loop-number : goal.invariant-loop-number
invariant-loop-number g l =
    WalksPrinted l.image l.entries l.walks l.number (g.H.Host.outside l.initial.host) (g.H.Host.outside l.host)
