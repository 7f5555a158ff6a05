use Rattle.std.proofs.Common.{◌≡◌, ◌∙◌, Some, rules, tests, sym}
use Rattle.std.proofs.lemmas.Iterator.{YieldsList-from_slice}
use Rattle.std.proofs.lemmas.Iterator.Search.{position_from_yields_List}
use Rattle.module_image.specs.Module.{is_trace_at, trace_at}
use Rattle.module_image.proofs.Lent.{trace_site}
use Rattle.module_image.proofs.image.trace_at.Goals as goal

pub returns-in_err-place-clause-found : goal.returns-in_err-place-clause-found
returns-in_err-place-clause-found c =
    let found = position_from_yields_List (is_trace_at c.args.at) _ _ c.position.result c.position.ensures.ran (YieldsList-from_slice c.args.sites.now c.iter.ensures.rest) (λ x b q k. search (rules, tests)) in
    c.from_residual.ensures ∙ sym c.in_err-place.was ∙ found

pub returns-clause-found : goal.returns-clause-found
returns-clause-found c =
    let found = position_from_yields_List (is_trace_at c.args.at) _ _ c.position.result c.position.ensures.ran (YieldsList-from_slice c.args.sites.now c.iter.ensures.rest) (λ x b q k. search (rules, tests)) in
    sym c.in_ok-place.was ∙ found

pub returns-clause-site : goal.returns-clause-site
returns-clause-site c =
    let found = position_from_yields_List (is_trace_at c.args.at) _ _ c.position.result c.position.ensures.ran (YieldsList-from_slice c.args.sites.now c.iter.ensures.rest) (λ x b q k. search (rules, tests)) in
    let is : Some c.in_ok-place.place ≡ trace_at c.args.sites.now c.args.at = sym c.in_ok-place.was ∙ found in
    trace_site c.args.sites.now c.args.at c.in_ok-place.place (sym is)
