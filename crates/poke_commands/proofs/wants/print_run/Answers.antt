use Rattle.std.proofs.Common.{List, Ok, map, subst, ℕ}
use Rattle.poke_base.specs.declared.host.WriteFail.{WriteFail}
use Rattle.poke_base.specs.Host.{Prints}
use Rattle.poke_base.proofs.Outsides.{Prints-more}
use Rattle.key_state.specs.declared.outcome.Outcome.{Outcome}
use Rattle.key_state.specs.Outcome.{ending_of}
use Rattle.module_image.specs.SiteLine.{site_lines}
use Rattle.poke_commands.specs.Wants.{outcome_lines}
use Rattle.poke_commands.proofs.wants.print_run.Goals as goal

pub returns : goal.returns
returns g c =
    let outcomes : List Outcome = c.args.run.now.outcomes.items in
    let text : List ℕ = c.args.run.now.settled.text in
    Prints-more _ _ _ (outcome_lines 1 (map ending_of outcomes)) (site_lines c.args.image.now.base text c.args.image.now.sites) tt _
    (subst (λ (done : List Outcome). Prints {T = Unit {0}} {E = WriteFail} (g.H.Host.outside c.args.host.now) (g.H.Host.outside c.print_outcomes.new.host) (outcome_lines 1 (map ending_of done)) (Ok tt)) c.deref.ensures.value c.in_ok-print_outcomes.ensures)
    (subst (λ (t : List ℕ). Prints {T = Unit {0}} {E = WriteFail} (g.H.Host.outside c.print_outcomes.new.host) (g.H.Host.outside c.print_sites.new.host) (site_lines c.args.image.now.base t c.args.image.now.sites) c.print_sites.result) c.text.ensures c.print_sites.ensures)
