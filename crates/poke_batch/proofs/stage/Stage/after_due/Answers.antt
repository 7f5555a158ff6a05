use Rattle.std.proofs.Common.{arith}
use Rattle.poke_batch.proofs.ChunkPatches.{byte_else, byte_then, place_fits}
use Rattle.poke_batch.proofs.stage.Stage.after_due.Goals as goal

pub overflow_add-place : goal.overflow_add-place
overflow_add-place c =
    omega (arith, place_fits c.args.chunk.now c.args.self c.in-Tail.site c.in-Tail.place c.requires c.in-Tail.is)

pub returns-then-place-size : goal.returns-then-place-size
returns-then-place-size c =
    byte_then c.args.chunk.now c.args.self c.in-Tail.site c.in-Tail.place c.size.result c.index-chunk-site.result c.requires c.in-Tail.is c.size.ensures c.if-place-size.true

pub returns-else-place-size : goal.returns-else-place-size
returns-else-place-size c =
    byte_else c.args.chunk.now c.args.self c.tail_after.result c.in-Tail.site c.in-Tail.place c.size.result c.index-chunk-site.result c.requires c.in-Tail.is c.size.ensures c.if-place-size.false c.tail_after.ensures
