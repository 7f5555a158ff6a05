-- The chunks that are added, with those of the changes that are left, are all.
use Rattle.std.proofs.Common.{length, ◌≡◌, ◌++◌, map}
use Rattle.poke_batch.specs.Poke.{chunks}
use Rattle.live_engine.proofs.plan.push_chunks.Given as goal

abbrev pub invariant-loop-rest : goal.invariant-loop-rest
invariant-loop-rest l =
    map (λ chunk. chunk.items) l.all.items ++ chunks l.rest ≡ map (λ chunk. chunk.items) l.initial.all.items ++ chunks l.changes

abbrev pub decreases-loop-rest : goal.decreases-loop-rest
decreases-loop-rest l = length l.rest
