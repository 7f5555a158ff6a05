use Rattle.poke_batch.proofs.Chunks.{chunks_of}
use Rattle.poke_batch.proofs.laws.chunks_are_changes.Goals as goal

pub returns : goal.returns
returns c = record { law = chunks_of }
