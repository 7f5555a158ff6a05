use Rattle.std.proofs.Common.{not}
use Rattle.std.proofs.lemmas.Grind.{common_steps}
use Rattle.std.proofs.lemmas.List.Sums.{prefix_len-le-length}
use Rattle.std.proofs.Common.{arith}
use Rattle.script_text.specs.Lines.{is_line_feed}
use Rattle.script_text.proofs.FirstLines.{lines-fed, lines-last}
use Rattle.script_text.proofs.lines.next_line.Goals as goal

pub split_at-requires : goal.split_at-requires
split_at-requires c = rw c.line_len.ensures (prefix_len-le-length (λ byte. not (is_line_feed byte)) c.args.text.now)

pub returns-in-Some-clause-lines : goal.returns-in-Some-clause-lines
returns-in-Some-clause-lines c =
    lines-fed c.args.text.now c.split_at.result.0.now c.split_at.result.1.now c.in-Some.rest.now c.line_len.result c.in-Some.field-0-0.now (grind (arith, common_steps)) c.line_len.ensures c.split_at.ensures.front c.split_at.ensures.back c.in-Some.ensures.cases.0

pub returns-in-None-clause-lines : goal.returns-in-None-clause-lines
returns-in-None-clause-lines c =
    lines-last c.args.text.now c.split_at.result.0.now c.split_at.result.1.now c.line_len.result (grind (arith, common_steps)) c.line_len.ensures c.split_at.ensures.front c.split_at.ensures.back c.in-None.ensures.cases
