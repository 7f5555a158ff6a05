use Rattle.std.proofs.Common.{◌≡◌}
use Rattle.batch_tests.proofs.chunks.counts_what_is_due.Given as goal

abbrev pub invariant-events : goal.invariant-events
invariant-events g l = l.batch.cpus ≡ 16
