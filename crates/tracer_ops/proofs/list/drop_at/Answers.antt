use Rattle.std.proofs.Common.{rules}
use Rattle.tracer_ops.proofs.Dropping.{map-without, total_at}
use Rattle.tracer_ops.proofs.list.drop_at.Goals as goal

pub returns-clause-closes_up : goal.returns-clause-closes_up
returns-clause-closes_up g c = map-without _ c.args.tracers.now.items _ c.args.place (search rules)

pub returns-clause-total : goal.returns-clause-total
returns-clause-total g c = total_at _ c.args.tracers.now.items c.args.place c.index.result.now _ (search rules) (search rules) c.total_of_one-total.ensures
