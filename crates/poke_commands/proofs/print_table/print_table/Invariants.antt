use Rattle.std.proofs.Common.{◌*◌, Ok}
use Rattle.std.specs.List.{flat_map, range_with_len}
use Rattle.poke_base.specs.declared.host.WriteFail.{WriteFail}
use Rattle.poke_base.specs.Host.{Prints}
use Rattle.site_tables.specs.Entry.{entry_size}
use Rattle.poke_commands.specs.Module.{entry_line}
use Rattle.poke_commands.proofs.print_table.print_table.Given as goal

abbrev pub invariant-loop-i : goal.invariant-loop-i
invariant-loop-i g l =
    Prints {T = Unit {0}} {E = WriteFail} (g.H.Host.outside l.initial.host) (g.H.Host.outside l.host)
    (flat_map (λ k. entry_line l.kind l.section.addr l.section.content.now (entry_size l.kind * k)) (range_with_len 0 l.i))
    (Ok tt)
