use Rattle.std.proofs.Common.{◌∙◌, length, not, rules, tests}
use Rattle.std.proofs.lemmas.Iterator.{YieldsList-from_slice}
use Rattle.std.proofs.lemmas.Iterator.Search.{position_from_yields_List}
use Rattle.std.proofs.lemmas.List.Sums.{prefix_len-le-length}
use Rattle.std.specs.List.{position_or_len}
use Rattle.poke_base.proofs.WordLemmas.{found_or_len}
use Rattle.poke_plan.specs.PlanLine.{is_line_feed}
use Rattle.poke_plan.proofs.plan_line.line_len.Goals as goal

pub returns : goal.returns
returns c =
    let text = c.args.text.now in
    let found = position_from_yields_List is_line_feed _ _ c.position.result c.position.ensures.ran (YieldsList-from_slice text c.iter.ensures.rest) (λ x b q k. search (rules, tests)) in
    c.unwrap_or.ensures ∙ found_or_len (position_or_len is_line_feed text) (length text) c.position.result (prefix_len-le-length (λ byte. not (is_line_feed byte)) text) found
