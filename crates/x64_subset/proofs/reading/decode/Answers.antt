-- The first byte decides; an answer that is what is read is right in each clause.
use Rattle.std.proofs.Common.{◌≡◌, ◌∙◌, ap, sym, Err, arith}
use Rattle.std.proofs.lemmas.Result.{err_from_is_err_and}
use Rattle.x64_subset.specs.Reading.{read}
use Rattle.x64_subset.proofs.Answered.{bytes_at, answer_stands, answer_length, answer_listed, answer_short, answer_unknown}
use Rattle.x64_subset.proofs.reading.decode.Goals as goal

pub returns-in_err-opcode : goal.returns-in_err-opcode
unfolding read
returns-in_err-opcode c =
    let fit = bytes_at c.args.bytes.now (λ i. omega (arith, c.type_inv.bytes i)) in
    let p = err_from_is_err_and c.from_residual.result c.from_residual.ensures.1 in
    let residual = p.1 ∙ ap Err p.2 in
    let same : c.from_residual.result ≡ read c.args.at c.args.bytes.now = residual ∙ ap Err c.in_err-opcode.ensures.1 ∙ ap (read c.args.at) (sym c.in_err-opcode.ensures.0) in
    record {
      reads = same;
      stands = answer_stands _ _ _ fit same;
      listed = answer_listed c.args.at c.args.bytes.now _ same;
      length = answer_length c.args.at c.args.bytes.now _ same;
      short = answer_short _ _ _ fit same;
      unknown = answer_unknown _ _ _ fit same;
    }

pub returns : goal.returns
unfolding read
returns c =
    let fit = bytes_at c.args.bytes.now (λ i. omega (arith, c.type_inv.bytes i)) in
    let same : c.by_opcode.result ≡ read c.args.at c.args.bytes.now = c.by_opcode.ensures ∙ ap (read c.args.at) (sym c.in_ok-opcode.ensures) in
    record {
      reads = same;
      stands = answer_stands _ _ _ fit same;
      listed = answer_listed c.args.at c.args.bytes.now _ same;
      length = answer_length c.args.at c.args.bytes.now _ same;
      short = answer_short _ _ _ fit same;
      unknown = answer_unknown _ _ _ fit same;
    }
