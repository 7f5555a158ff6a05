use Rattle.std.proofs.Common.{◌≡◌, ◌++◌, ◌∙◌, ℕ, List, codes, ap, append_assoc, subst, sym}
use Rattle.key_state.specs.declared.outcome.Outcome.{Outcome}
use Rattle.key_state.specs.Outcome.{ending_of}
use Rattle.key_state.specs.OutcomeLine.{clash_words, ending_words}
use Rattle.key_state.proofs.lines.put_ending.Goals as goal

pub returns-in-Clash-clause-words : goal.returns-in-Clash-clause-words
returns-in-Clash-clause-words c =
    let clash = c.in-Clash.clash in
    let words = clash_words clash.at clash.found.items clash.expected.items in
    subst (λ (o : Outcome). c.put_clash.new.line.items ≡ c.args.line.now.items ++ ending_words (ending_of o)) (sym c.in-Clash.is)
    (c.put_clash.ensures.words ∙ ap (λ (text : List ℕ). text ++ words) c.put_text-in-Clash.ensures ∙ append_assoc c.args.line.now.items (codes "refused clash ") words)
