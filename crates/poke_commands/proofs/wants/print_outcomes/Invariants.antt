use Rattle.std.proofs.Common.{map, take, Ok}
use Rattle.poke_base.specs.declared.host.WriteFail.{WriteFail}
use Rattle.poke_base.specs.Host.{Prints}
use Rattle.key_state.specs.Outcome.{ending_of}
use Rattle.poke_commands.specs.Wants.{outcome_lines}
use Rattle.poke_commands.proofs.wants.print_outcomes.Given as goal

abbrev pub invariant-loop-place : goal.invariant-loop-place
invariant-loop-place g l =
    Prints {T = Unit {0}} {E = WriteFail} (g.H.Host.outside l.initial.host) (g.H.Host.outside l.host)
    (outcome_lines 1 (map ending_of (take l.place l.outcomes)))
    (Ok tt)
