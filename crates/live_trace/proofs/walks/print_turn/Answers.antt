use Rattle.std.proofs.Common.{List, Err, Ok, ℕ, ◌++◌, ◌∙◌, ap, refl, subst, sym}
use Rattle.cpu_core.specs.Lines.{mark_line}
use Rattle.live_engine.specs.declared.cpu.Turn.{Turn}
use Rattle.poke_base.specs.declared.host.WriteFail.{WriteFail}
use Rattle.poke_base.specs.Host.{Prints}
use Rattle.poke_base.proofs.Outsides.{Prints-more, Prints-prefix}
use Rattle.live_trace.specs.WalkText.{turn_text, version_line}
use Rattle.poke_base.proofs.ItemLines.{as_failed}
use Rattle.live_trace.proofs.walks.print_turn.Goals as goal

pub returns-in_err-print-in-Pass-clause-prints : goal.returns-in_err-print-in-Pass-clause-prints
returns-in_err-print-in-Pass-clause-prints g c =
    let cpu = c.args.cpu in
    let at = c.args.proc.now.ip in
    let life = c.emulate.new.proc.life in
    let line = version_line cpu at c.in-Pass.form c.in-Pass.version c.in-Pass.ack in
    subst (λ (turn : Turn). Prints {T = Unit {0}} {E = WriteFail} (g.H.Host.outside c.args.host.now) (g.H.Host.outside c.print.new.self) (turn_text cpu at turn life) c.from_residual.result) (sym c.in-Pass.is)
    (as_failed _ _ _ c.in_err-print-in-Pass.field-0.0 c.from_residual.result c.from_residual.ensures.0
    (Prints-prefix _ _ line (mark_line cpu c.in-Pass.mark life) c.in_err-print-in-Pass.field-0.0
    (subst (λ (t : List ℕ). Prints {T = Unit {0}} {E = WriteFail} (g.H.Host.outside c.args.host.now) (g.H.Host.outside c.print.new.self) t (Err c.in_err-print-in-Pass.field-0.0)) (c.deref.ensures.0 ∙ c.version_line.ensures) c.in_err-print-in-Pass.ensures)))

pub returns-in_ok-print-in-Pass-clause-prints : goal.returns-in_ok-print-in-Pass-clause-prints
returns-in_ok-print-in-Pass-clause-prints g c =
    let cpu = c.args.cpu in
    let at = c.args.proc.now.ip in
    let life = c.emulate.new.proc.life in
    let line = version_line cpu at c.in-Pass.form c.in-Pass.version c.in-Pass.ack in
    subst (λ (turn : Turn). Prints {T = Unit {0}} {E = WriteFail} (g.H.Host.outside c.args.host.now) (g.H.Host.outside c.print_mark-in-Pass.new.host) (turn_text cpu at turn life) c.print_mark-in-Pass.result) (sym c.in-Pass.is)
    (Prints-more _ _ _ line (mark_line cpu c.in-Pass.mark life) tt c.print_mark-in-Pass.result
    (subst (λ (t : List ℕ). Prints {T = Unit {0}} {E = WriteFail} (g.H.Host.outside c.args.host.now) (g.H.Host.outside c.print.new.self) t (Ok tt)) (c.deref.ensures.0 ∙ c.version_line.ensures) c.in_ok-print-in-Pass.ensures)
    c.print_mark-in-Pass.ensures)
