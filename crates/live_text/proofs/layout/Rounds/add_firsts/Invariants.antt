use Rattle.std.proofs.Common.{◌≡◌, ◌++◌, map, take}
use Rattle.poke_batch.specs.Poke.{firsts}
use Rattle.live_text.specs.Flat.{placed}
use Rattle.live_text.proofs.layout.Rounds.add_firsts.Given as goal

-- the changes so far
abbrev pub invariant-loop-change : goal.invariant-loop-change
invariant-loop-change l =
    (l.self.writes.items ≡ l.initial.self.writes.items ++ map (placed l.sites) (firsts (take l.change-index l.chunk)))
    × (l.self.cuts.items ≡ l.initial.self.cuts.items)
