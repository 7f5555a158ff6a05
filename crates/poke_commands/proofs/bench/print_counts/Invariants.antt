use Rattle.std.proofs.Common.{take, Ok}
use Rattle.std.specs.List.{flat_map}
use Rattle.poke_base.specs.declared.host.WriteFail.{WriteFail}
use Rattle.poke_base.specs.Host.{Prints}
use Rattle.poke_commands.specs.BenchText.{count_line, worded}
use Rattle.poke_commands.proofs.bench.print_counts.Given as goal

abbrev pub invariant-loop-place : goal.invariant-loop-place
invariant-loop-place g l =
    Prints {T = Unit {0}} {E = WriteFail} (g.H.Host.outside l.initial.host) (g.H.Host.outside l.host)
    (flat_map count_line (take l.place (worded l.counts)))
    (Ok tt)
