-- A number up to 15 has at most two digits.
use Rattle.std.proofs.Common.{length, ap, arith, length-append, codes, ◌∙◌}
use Rattle.poke_base.specs.Number.{decimal}
use Rattle.run_journal.proofs.Words.{length-decimal_cpu}
use Rattle.run_journal.proofs.spelling.put_cpu.Goals as goal

pub put_dec-requires : goal.put_dec-requires
put_dec-requires c =
    let few = length-decimal_cpu c.in-Some.cpu (c.requires.few c.in-Some.cpu c.in-Some.is) in
    let same = ap (λ n. length (decimal n)) c.from.ensures in
    let before = ap length c.put_text.ensures ∙ length-append c.args.line.now.items (codes " ") in
    omega arith

pub returns-in-Some-clause-short : goal.returns-in-Some-clause-short
returns-in-Some-clause-short c =
    let few = length-decimal_cpu c.in-Some.cpu (c.requires.few c.in-Some.cpu c.in-Some.is) in
    let same = ap (λ n. length (decimal n)) c.from.ensures in
    let before = ap length c.put_text.ensures ∙ length-append c.args.line.now.items (codes " ") in
    let after = ap length c.put_dec.ensures.added ∙ length-append c.put_text.new.line.items (decimal c.from.result) in
    omega arith
