use Rattle.std.proofs.Common.{◌≡◌}
use Rattle.batch_tests.proofs.chunks.poke.Given as goal

abbrev pub invariant-traps : goal.invariant-traps
invariant-traps g l = l.batch.cpus ≡ 16

abbrev pub invariant-tails : goal.invariant-tails
invariant-tails g l = l.batch.cpus ≡ 16

abbrev pub invariant-firsts : goal.invariant-firsts
invariant-firsts g l = l.batch.cpus ≡ 16
