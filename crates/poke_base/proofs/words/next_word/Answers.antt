use Rattle.std.proofs.Common.{◌∙◌, ap, arith, drop, not, take}
use Rattle.std.proofs.lemmas.Grind.{common_steps}
use Rattle.std.proofs.lemmas.List.Sums.{prefix_len-le-length}
use Rattle.poke_base.specs.Text.{is_blank}
use Rattle.poke_base.proofs.WordLemmas.{first_len-some, words-none, words-some}
use Rattle.poke_base.proofs.words.next_word.Goals as goal

pub split_at-requires : goal.split_at-requires
split_at-requires c = rw c.blanks_len.ensures (prefix_len-le-length (λ byte. not (not (is_blank byte))) c.args.line.now)

pub returns-then-is_empty-clause-words : goal.returns-then-is_empty-clause-words
returns-then-is_empty-clause-words c =
    words-none c.args.line.now c.split_at.result.1.now (c.split_at.ensures.back ∙ ap (λ n. drop n c.args.line.now) c.blanks_len.ensures) (grind (arith, common_steps))

pub split_at-requires-2 : goal.split_at-requires-2
split_at-requires-2 c = rw c.word_len.ensures (prefix_len-le-length (λ byte. not (is_blank byte)) c.split_at.result.1.now)

pub returns-clause-words : goal.returns-clause-words
returns-clause-words c =
    let text = c.split_at.result.1.now in
    words-some c.args.line.now text c.split_at-2.result.0.now c.split_at-2.result.1.now
    (c.split_at.ensures.back ∙ ap (λ n. drop n c.args.line.now) c.blanks_len.ensures)
    (grind (arith, common_steps))
    (c.split_at-2.ensures.front ∙ ap (λ n. take n text) c.word_len.ensures)
    (c.split_at-2.ensures.back ∙ ap (λ n. drop n text) c.word_len.ensures)

pub returns-clause-some : goal.returns-clause-some
returns-clause-some c =
    let found = first_len-some c.args.line.now c.split_at.result.1.now (c.split_at.ensures.back ∙ ap (λ n. drop n c.args.line.now) c.blanks_len.ensures) (grind (arith, common_steps)) in
    omega (arith, found, c.word_len.ensures, c.split_at-2.ensures.front_len)
