use Rattle.std.proofs.Common.{◌∙◌, Err, List, Ok, ℕ, subst}
use Rattle.std.specs.List.{flat_map}
use Rattle.poke_base.specs.declared.host.WriteFail.{WriteFail}
use Rattle.poke_base.specs.Host.{Prints}
use Rattle.poke_base.proofs.Outsides.{Prints-more, Prints-prefix}
use Rattle.poke_commands.specs.BenchText.{bench_line, count_line, worded}
use Rattle.poke_base.proofs.ItemLines.{as_failed}
use Rattle.poke_commands.proofs.bench.print_bench.Goals as goal

pub returns-in_err-print : goal.returns-in_err-print
returns-in_err-print g c =
    as_failed _ _ _ c.in_err-print.field-0.0 c.from_residual.result c.from_residual.ensures.0
    (Prints-prefix _ _ (bench_line c.args.blocks c.args.seed) (flat_map count_line (worded c.args.counts.now)) c.in_err-print.field-0.0
    (subst (λ (text : List ℕ). Prints {T = Unit {0}} {E = WriteFail} (g.H.Host.outside c.args.host.now) (g.H.Host.outside c.print.new.self) text (Err c.in_err-print.field-0.0)) (c.deref.ensures.0 ∙ c.bench_line.ensures) c.in_err-print.ensures))

pub returns : goal.returns
returns g c =
    Prints-more _ _ _ (bench_line c.args.blocks c.args.seed) (flat_map count_line (worded c.args.counts.now)) tt _
    (subst (λ (text : List ℕ). Prints {T = Unit {0}} {E = WriteFail} (g.H.Host.outside c.args.host.now) (g.H.Host.outside c.print.new.self) text (Ok tt)) (c.deref.ensures.0 ∙ c.bench_line.ensures) c.in_ok-print.ensures)
    c.print_counts.ensures
