use Rattle.std.proofs.Common.{◌-◌}
use Rattle.switching.specs.Choice.{most_events}
use Rattle.bench_run.proofs.Running.{Running}
use Rattle.bench_run.proofs.run.run.Given as goal

abbrev pub invariant-events : goal.invariant-events
invariant-events l = Running l.fn.world.image l.fn.world.script l.fn.words l.world l.words l.counts

abbrev pub decreases-events : goal.decreases-events
decreases-events l = most_events - l.counts.events
