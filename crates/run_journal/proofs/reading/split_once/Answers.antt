use Rattle.std.proofs.Common.{◌==◌, ◌∙◌, rules, sym, tests}
use Rattle.std.proofs.lemmas.Iterator.{YieldsList-from_slice}
use Rattle.std.proofs.lemmas.Iterator.Search.{position_from_yields_List}
use Rattle.run_journal.proofs.Splits.{split_found, split_none}
use Rattle.run_journal.proofs.reading.split_once.Goals as goal

pub returns-in_err-len : goal.returns-in_err-len
returns-in_err-len c =
    let text = c.args.text.now in
    let found = position_from_yields_List (λ byte. byte == c.args.mark) _ _ c.position.result c.position.ensures.ran (YieldsList-from_slice text c.iter.ensures.rest) (λ x b q k. search (rules, tests)) in
    rw c.from_residual.ensures (split_none c.args.mark text (sym c.in_err-len.was ∙ found))

pub returns : goal.returns
returns c =
    let text = c.args.text.now in
    let found = position_from_yields_List (λ byte. byte == c.args.mark) _ _ c.position.result c.position.ensures.ran (YieldsList-from_slice text c.iter.ensures.rest) (λ x b q k. search (rules, tests)) in
    split_found c.args.mark c.in_ok-len.len text (sym c.in_ok-len.was ∙ found)
