use Rattle.std.proofs.Common.{not}
use Rattle.std.proofs.lemmas.List.Sums.{prefix_len-le-length}
use Rattle.poke_plan.specs.PlanLine.{is_line_feed}
use Rattle.poke_plan.proofs.PlanLines.{only_line-one, only_line-more}
use Rattle.poke_plan.proofs.plan_line.only_line.Goals as goal

pub split_at-requires : goal.split_at-requires
split_at-requires c = rw c.line_len.ensures (prefix_len-le-length (λ byte. not (is_line_feed byte)) c.args.text.now)

pub returns-then-end-gt1-clause-line : goal.returns-then-end-gt1-clause-line
returns-then-end-gt1-clause-line c =
    only_line-more c.args.text.now c.split_at.result.1.now c.line_len.result c.line_len.ensures c.split_at.ensures.back c.if-end-gt1.true

pub returns-clause-line : goal.returns-clause-line
returns-clause-line c =
    only_line-one c.args.text.now c.split_at.result.0.now c.split_at.result.1.now c.line_len.result c.line_len.ensures c.split_at.ensures.front c.split_at.ensures.back c.if-end-gt1.false
