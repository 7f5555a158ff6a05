use Rattle.std.proofs.Common.{◌∙◌, length, not, rules, tests}
use Rattle.std.proofs.lemmas.Iterator.{YieldsList-from_slice}
use Rattle.std.proofs.lemmas.Iterator.Search.{position_from_yields_List}
use Rattle.std.proofs.lemmas.List.Sums.{prefix_len-le-length}
use Rattle.poke_base.specs.Text.{is_blank}
use Rattle.poke_base.proofs.WordLemmas.{first_len, found_or_len}
use Rattle.poke_base.proofs.words.word_len.Goals as goal

pub returns : goal.returns
returns c =
    let text = c.args.text.now in
    let found = position_from_yields_List is_blank _ _ c.position.result c.position.ensures.ran (YieldsList-from_slice text c.iter.ensures.rest) (λ x b q k. search (rules, tests)) in
    c.unwrap_or.ensures ∙ found_or_len (first_len text) (length text) c.position.result (prefix_len-le-length (λ byte. not (is_blank byte)) text) found
