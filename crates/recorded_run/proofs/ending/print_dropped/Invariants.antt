use Rattle.std.proofs.Common.{take, Ok}
use Rattle.std.specs.List.{flat_map}
use Rattle.poke_base.specs.declared.host.WriteFail.{WriteFail}
use Rattle.poke_base.specs.Host.{Prints}
use Rattle.recorded_run.specs.Tally.{dropped_line}
use Rattle.recorded_run.proofs.ending.print_dropped.Given as goal

abbrev pub invariant-loop-drop : goal.invariant-loop-drop
invariant-loop-drop g l =
    Prints {T = Unit {0}} {E = WriteFail} (g.H.Host.outside l.initial.host) (g.H.Host.outside l.host)
    (flat_map dropped_line (take l.drop-index l.dropped))
    (Ok tt)
