use Rattle.std.proofs.Common.{◌≡◌}
use Rattle.batch_tests.proofs.chunks.synchronise.Given as goal

abbrev pub invariant-loop-cpu : goal.invariant-loop-cpu
invariant-loop-cpu g l = l.batch.cpus ≡ 16
