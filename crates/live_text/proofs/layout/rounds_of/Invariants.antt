use Rattle.std.proofs.Common.{map, take}
use Rattle.live_text.specs.Flat.{rounds}
use Rattle.live_text.specs.Layout.{AreRounds}
use Rattle.live_text.proofs.layout.rounds_of.Given as goal

-- the chunks so far
abbrev pub invariant-loop-chunk : goal.invariant-loop-chunk
invariant-loop-chunk l = AreRounds l.sites (rounds (map (λ chunk. chunk.items) (take l.chunk-index l.chunks))) l.made
