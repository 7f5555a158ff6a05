use Rattle.std.proofs.Common.{◌≡◌, ◌++◌, ◌∙◌, [], append_assoc, ap, Err, List, Ok, ℕ, subst, sym}
use Rattle.poke_base.specs.declared.host.WriteFail.{WriteFail}
use Rattle.poke_base.specs.Host.{Outside, Prints}
use Rattle.poke_base.proofs.Outsides.{Prints-more, Prints-none, Prints-part}
use Rattle.module_image.specs.SiteLine.{site_lines}
use Rattle.poke_commands.specs.Check.{accepted_line, text_line}
use Rattle.poke_base.proofs.ItemLines.{as_failed}
use Rattle.poke_commands.proofs.check.print_image.Goals as goal

-- the first of three texts failed
first_failed : (first second third : List ℕ) (why : WriteFail) (old new : Outside) → Prints {T = Unit {0}} {E = WriteFail} old new first (Err why) → Prints {T = Unit {0}} {E = WriteFail} old new ((first ++ second) ++ third) (Err why)
first_failed first second third why old new prints =
    subst (λ (text : List ℕ). Prints {T = Unit {0}} {E = WriteFail} old new text (Err why)) (sym (append_assoc first second third))
    (Prints-part old old new [] first (second ++ third) tt why (Prints-none old tt) prints)

-- the line of the text that is printed
said_text : (base base' : ℕ) (text text' line printed : List ℕ) → base ≡ base' → text ≡ text' → line ≡ text_line base text → printed ≡ line → printed ≡ text_line base' text'
said_text base base' text text' line printed same_base same_text is printed_is =
    printed_is ∙ is ∙ ap (λ (b : ℕ). text_line b text) same_base ∙ ap (λ (t : List ℕ). text_line base' t) same_text

pub returns-in_err-print : goal.returns-in_err-print
returns-in_err-print g c =
    let said : c.deref.result.now ≡ text_line c.args.image.now.base c.args.image.now.text = said_text c.base.result c.args.image.now.base c.text-text.result.now c.args.image.now.text c.text_line.result.items c.deref.result.now c.base.ensures.base c.text-text.ensures.text c.text_line.ensures c.deref.ensures.0 in
    as_failed _ _ _ c.in_err-print.field-0.0 c.from_residual.result c.from_residual.ensures.0
    (first_failed (text_line c.args.image.now.base c.args.image.now.text) (site_lines c.args.image.now.base c.args.image.now.text c.args.image.now.sites) accepted_line c.in_err-print.field-0.0 _ _
    (subst (λ (text : List ℕ). Prints {T = Unit {0}} {E = WriteFail} (g.H.Host.outside c.args.host.now) (g.H.Host.outside c.print.new.self) text (Err c.in_err-print.field-0.0)) said c.in_err-print.ensures))

pub returns-in_err-print_sites : goal.returns-in_err-print_sites
returns-in_err-print_sites g c =
    let said : c.deref.result.now ≡ text_line c.args.image.now.base c.args.image.now.text = said_text c.base.result c.args.image.now.base c.text-text.result.now c.args.image.now.text c.text_line.result.items c.deref.result.now c.base.ensures.base c.text-text.ensures.text c.text_line.ensures c.deref.ensures.0 in
    as_failed _ _ _ c.in_err-print_sites.field-0.0 c.from_residual-in_err-print_sites.result c.from_residual-in_err-print_sites.ensures.0
    (Prints-part _ _ _ (text_line c.args.image.now.base c.args.image.now.text) (site_lines c.args.image.now.base c.args.image.now.text c.args.image.now.sites) accepted_line tt c.in_err-print_sites.field-0.0
    (subst (λ (text : List ℕ). Prints {T = Unit {0}} {E = WriteFail} (g.H.Host.outside c.args.host.now) (g.H.Host.outside c.print.new.self) text (Ok tt)) said c.in_ok-print.ensures)
    (subst (λ (text : List ℕ). Prints {T = Unit {0}} {E = WriteFail} (g.H.Host.outside c.print.new.self) (g.H.Host.outside c.print_sites.new.host) (site_lines c.args.image.now.base text c.args.image.now.sites) (Err c.in_err-print_sites.field-0.0)) c.text-text.ensures.text c.in_err-print_sites.ensures))

pub returns : goal.returns
returns g c =
    let said : c.deref.result.now ≡ text_line c.args.image.now.base c.args.image.now.text = said_text c.base.result c.args.image.now.base c.text-text.result.now c.args.image.now.text c.text_line.result.items c.deref.result.now c.base.ensures.base c.text-text.ensures.text c.text_line.ensures c.deref.ensures.0 in
    Prints-more _ _ _ (text_line c.args.image.now.base c.args.image.now.text ++ site_lines c.args.image.now.base c.args.image.now.text c.args.image.now.sites) accepted_line tt _
    (Prints-more _ _ _ (text_line c.args.image.now.base c.args.image.now.text) (site_lines c.args.image.now.base c.args.image.now.text c.args.image.now.sites) tt _
    (subst (λ (text : List ℕ). Prints {T = Unit {0}} {E = WriteFail} (g.H.Host.outside c.args.host.now) (g.H.Host.outside c.print.new.self) text (Ok tt)) said c.in_ok-print.ensures)
    (subst (λ (text : List ℕ). Prints {T = Unit {0}} {E = WriteFail} (g.H.Host.outside c.print.new.self) (g.H.Host.outside c.print_sites.new.host) (site_lines c.args.image.now.base text c.args.image.now.sites) (Ok tt)) c.text-text.ensures.text c.in_ok-print_sites.ensures))
    c.print-2.ensures
