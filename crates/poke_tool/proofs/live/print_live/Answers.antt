use Rattle.std.proofs.Common.{List, Ok, map, subst, ℕ}
use Rattle.poke_base.specs.declared.host.WriteFail.{WriteFail}
use Rattle.poke_base.specs.Host.{Prints}
use Rattle.key_state.specs.declared.outcome.Outcome.{Outcome}
use Rattle.key_state.specs.Outcome.{ending_of}
use Rattle.live_trace.specs.WalkText.{walks_text}
use Rattle.module_image.specs.SiteLine.{site_lines}
use Rattle.poke_commands.specs.Wants.{outcome_lines}
use Rattle.poke_base.proofs.ItemLines.{as_failed}
use Rattle.poke_tool.proofs.LiveRuns.{members, second_cut, sites_as, three_printed, walks_as, walks_there}
use Rattle.poke_tool.proofs.live.print_live.Goals as goal

pub print_walks-requires-clause-walks : goal.print_walks-requires-clause-walks
print_walks-requires-clause-walks g c =
    walks_there c.args.image.now c.args.script.now c.args.run.now c.entries.result.now c.deref-2.result.now c.requires.run c.entries.ensures.entries c.deref-2.ensures.value

pub returns-in_err-print_walks : goal.returns-in_err-print_walks
returns-in_err-print_walks g c =
    let m = c.args.image.now in
    let script = c.args.script.now in
    let run = c.args.run.now in
    let outcomes : List Outcome = c.args.dry_run.now.outcomes.items in
    as_failed _ _ _ c.in_err-print_walks.field-0.0 c.from_residual-in_err-print_walks.result c.from_residual-in_err-print_walks.ensures.0
    (second_cut _ _ _ (outcome_lines 1 (map ending_of outcomes)) (walks_text m 0 script.entries (members run.walks.items)) (site_lines m.base c.args.dry_run.now.settled.text m.sites) c.in_err-print_walks.field-0.0
    (subst (λ (done : List Outcome). Prints {T = Unit {0}} {E = WriteFail} (g.H.Host.outside c.args.host.now) (g.H.Host.outside c.print_outcomes.new.host) (outcome_lines 1 (map ending_of done)) (Ok tt)) c.deref.ensures.value c.in_ok-print_outcomes.ensures)
    (walks_as m script run c.entries.result.now c.deref-2.result.now _ _ _ c.entries.ensures.entries c.deref-2.ensures.value c.in_err-print_walks.ensures))

pub returns : goal.returns
returns g c =
    let m = c.args.image.now in
    let script = c.args.script.now in
    let run = c.args.run.now in
    let outcomes : List Outcome = c.args.dry_run.now.outcomes.items in
    three_printed _ _ _ _ (outcome_lines 1 (map ending_of outcomes)) (walks_text m 0 script.entries (members run.walks.items)) (site_lines m.base c.args.dry_run.now.settled.text m.sites) _
    (subst (λ (done : List Outcome). Prints {T = Unit {0}} {E = WriteFail} (g.H.Host.outside c.args.host.now) (g.H.Host.outside c.print_outcomes.new.host) (outcome_lines 1 (map ending_of done)) (Ok tt)) c.deref.ensures.value c.in_ok-print_outcomes.ensures)
    (walks_as m script run c.entries.result.now c.deref-2.result.now _ _ _ c.entries.ensures.entries c.deref-2.ensures.value c.in_ok-print_walks.ensures)
    (sites_as m script run c.args.dry_run.now.settled.text c.deref-3.result.now _ _ _ c.updated_sites_are_wanted.ensures c.accepted.ensures c.requires.of c.requires.run c.requires.settled c.deref-3.ensures.value c.print_live_sites.ensures)
