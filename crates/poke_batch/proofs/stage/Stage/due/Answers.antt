use Rattle.poke_batch.proofs.ChunkPatches.{byte_of, byte_within, first_of, trap_of}
use Rattle.poke_batch.proofs.stage.Stage.due.Goals as goal

pub write_at-requires-clause-in_site : goal.write_at-requires-clause-in_site
write_at-requires-clause-in_site c =
    byte_within c.args.chunk.now c.args.self c.in-Tail.site c.in-Tail.place c.index-chunk-site-in-Tail.result c.requires.inside c.requires.spelt c.in-Tail.is c.index-chunk-site-in-Tail.is

pub returns-in-Trap : goal.returns-in-Trap
returns-in-Trap c =
    trap_of c.args.chunk.now c.args.self c.in-Trap.site c.index-chunk-site.result c.requires.inside c.in-Trap.is

pub returns-in-Tail : goal.returns-in-Tail
returns-in-Tail c =
    byte_of c.args.chunk.now c.args.self c.in-Tail.site c.in-Tail.place c.index-chunk-site-in-Tail.result c.write_at.result c.requires.inside c.requires.spelt c.in-Tail.is c.index-chunk-site-in-Tail.is c.write_at.ensures

pub returns-in-First : goal.returns-in-First
returns-in-First c =
    first_of c.args.chunk.now c.args.self c.in-First.site c.index-chunk-site-in-First.result c.write_at-in-First.result c.requires.inside c.requires.spelt c.in-First.is c.index-chunk-site-in-First.is c.write_at-in-First.ensures
