use Rattle.std.proofs.Common.{◌*◌, ◌∙◌, Err, List, ℕ, subst}
use Rattle.poke_base.specs.declared.host.WriteFail.{WriteFail}
use Rattle.poke_base.specs.Host.{Prints}
use Rattle.site_tables.specs.Entry.{entry_size}
use Rattle.poke_commands.specs.Module.{entry_line}
use Rattle.poke_base.proofs.ItemLines.{as_failed}
use Rattle.poke_commands.proofs.TableLines.{line_failed, line_printed, table_text-whole}
use Rattle.poke_commands.proofs.print_table.print_table.Goals as goal

pub returns-in_err-print : goal.returns-in_err-print
returns-in_err-print g c =
    as_failed _ _ _ c.in_err-print.field-0.0 c.from_residual.result c.from_residual.ensures.0
    (
    subst (λ (text : List ℕ). Prints {T = Unit {0}} {E = WriteFail} (g.H.Host.outside c.args.host.now) (g.H.Host.outside c.print.new.self) text (Err c.in_err-print.field-0.0))
    (table_text-whole c.args.kind c.args.table.now c.in-Some.section c.in-Some.is c.requires)
    (line_failed (λ k. entry_line c.args.kind c.in-Some.section.addr c.in-Some.section.content.now (entry_size c.args.kind * k)) c.args.table.now.count c.loop-i.i c.deref.result.now c.in_err-print.field-0.0 _ _ _ c.loop-i-test.true c.loop-i.invariant (c.deref.ensures.0 ∙ c.entry_line.ensures) c.in_err-print.ensures)
    )

pub loop-i-preserved : goal.loop-i-preserved
loop-i-preserved g c =
    line_printed (λ k. entry_line c.args.kind c.in-Some.section.addr c.in-Some.section.content.now (entry_size c.args.kind * k)) c.loop-i.i c.deref.result.now _ _ _ c.loop-i.invariant (c.deref.ensures.0 ∙ c.entry_line.ensures) c.in_ok-print.ensures
