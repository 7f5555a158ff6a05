use Rattle.poke_batch.proofs.ChunkPatches.{chunk_is}
use Rattle.poke_batch.proofs.stage.Progress.chunk.Goals as goal

pub returns : goal.returns
returns c = chunk_is c.min.result c.args.self.from c.args.patches.now c.min.ensures
