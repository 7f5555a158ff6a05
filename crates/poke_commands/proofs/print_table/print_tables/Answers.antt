use Rattle.std.proofs.Common.{◌++◌}
use Rattle.poke_base.proofs.Outsides.{Prints-more, Prints-part}
use Rattle.site_tables.specs.declared.entries.TableKind.TheVariants.{Jump, Call, Trace}
use Rattle.site_tables.specs.Found.{section_in}
use Rattle.poke_commands.specs.Module.{table_text}
use Rattle.poke_base.proofs.ItemLines.{as_failed}
use Rattle.poke_commands.proofs.print_table.print_tables.Goals as goal

pub returns-in_err-print_table-2 : goal.returns-in_err-print_table-2
returns-in_err-print_table-2 g c =
    as_failed _ _ _ c.in_err-print_table-2.field-0.0 c.from_residual-in_err-print_table-2.result c.from_residual-in_err-print_table-2.ensures.0
    (Prints-part _ _ _ (table_text Jump (section_in c.args.tables.now.jumps)) (table_text Call (section_in c.args.tables.now.calls)) (table_text Trace (section_in c.args.tables.now.traces)) tt c.in_err-print_table-2.field-0.0 c.in_ok-print_table.ensures c.in_err-print_table-2.ensures)

pub returns : goal.returns
returns g c =
    Prints-more _ _ _ (table_text Jump (section_in c.args.tables.now.jumps) ++ table_text Call (section_in c.args.tables.now.calls)) (table_text Trace (section_in c.args.tables.now.traces)) tt _
    (Prints-more _ _ _ (table_text Jump (section_in c.args.tables.now.jumps)) (table_text Call (section_in c.args.tables.now.calls)) tt _ c.in_ok-print_table.ensures c.in_ok-print_table-2.ensures)
    c.print_table-3.ensures
