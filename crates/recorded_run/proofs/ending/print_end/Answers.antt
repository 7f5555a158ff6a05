use Rattle.std.proofs.Common.{◌++◌, Ok}
use Rattle.std.specs.List.{flat_map}
use Rattle.poke_base.proofs.Outsides.{Prints-more, Prints-part, Prints-prefix}
use Rattle.recorded_run.specs.Tally.{dropped_line, tracer_lines}
use Rattle.recorded_run.specs.Trace.{sites_text}
use Rattle.poke_base.proofs.ItemLines.{as_failed}
use Rattle.recorded_run.proofs.Tallies.{are_some_totals, some_totals}
use Rattle.recorded_run.proofs.ending.print_end.Goals as goal

pub returns-in_err-print_sites : goal.returns-in_err-print_sites
returns-in_err-print_sites g c s stands =
    let sites = sites_text c.args.world.now.image s in
    let lines = flat_map dropped_line c.args.dropped.now in
    let why = c.in_err-print_sites.field-0.0 in (
      some_totals _,
      are_some_totals _,
      as_failed _ _ _ why c.from_residual.result c.from_residual.ensures.0
          (Prints-prefix _ _ (sites ++ lines) _ why (Prints-prefix _ _ sites lines why (c.in_err-print_sites.ensures s stands))),
    )

pub returns-in_err-print_dropped : goal.returns-in_err-print_dropped
returns-in_err-print_dropped g c s stands =
    let sites = sites_text c.args.world.now.image s in
    let lines = flat_map dropped_line c.args.dropped.now in
    let why = c.in_err-print_dropped.field-0.0 in
    let failed = c.from_residual-in_err-print_dropped in (
      some_totals _,
      are_some_totals _,
      as_failed _ _ _ why failed.result failed.ensures.0
          (Prints-part _ _ _ sites lines _ tt why (c.in_ok-print_sites.ensures s stands) c.in_err-print_dropped.ensures),
    )

pub returns : goal.returns
returns g c s stands =
    let sites = sites_text c.args.world.now.image s in
    let lines = flat_map dropped_line c.args.dropped.now in
    let last = c.print_tracers.ensures in (
      last.0,
      last.1,
      Prints-more _ _ _ (sites ++ lines) (tracer_lines 0 last.0) tt c.print_tracers.result
          (Prints-more _ _ _ sites lines tt (Ok tt) (c.in_ok-print_sites.ensures s stands) c.in_ok-print_dropped.ensures)
          last.2,
    )
