use Rattle.x64_subset.specs.Proc.{start}
use Rattle.live_trace.proofs.WalkLines.{TurnsPrinted}
use Rattle.live_trace.proofs.walks.print_walk.Given as goal

abbrev pub invariant-loop-turn : goal.invariant-loop-turn
invariant-loop-turn g l =
    TurnsPrinted l.image l.cpu (start l.entry) l.walk l.turn-index l.proc (g.H.Host.outside l.initial.host) (g.H.Host.outside l.host)
