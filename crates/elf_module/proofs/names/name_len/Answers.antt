use Rattle.std.proofs.Common.{◌∙◌, ◌==◌, length, not, rules, tests}
use Rattle.std.proofs.lemmas.Iterator.{YieldsList-from_slice}
use Rattle.std.proofs.lemmas.Iterator.Search.{position_from_yields_List}
use Rattle.std.proofs.lemmas.List.Sums.{prefix_len-le-length}
use Rattle.std.specs.List.{position_or_len}
use Rattle.poke_base.proofs.WordLemmas.{found_or_len}
use Rattle.elf_module.proofs.names.name_len.Goals as goal

pub returns : goal.returns
returns c =
    let bytes = c.args.bytes.now in
    let found = position_from_yields_List (λ byte. byte == 0) _ _ c.position.result c.position.ensures.ran (YieldsList-from_slice bytes c.iter.ensures.rest) (λ x b q k. search (rules, tests)) in
    c.unwrap_or.ensures ∙ found_or_len (position_or_len (λ byte. byte == 0) bytes) (length bytes) c.position.result (prefix_len-le-length (λ byte. not (byte == 0)) bytes) found
