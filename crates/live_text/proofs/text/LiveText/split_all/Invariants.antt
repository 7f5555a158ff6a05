use Rattle.std.proofs.Common.{◌≡◌, ◌≤◌, vec_capacity}
use Rattle.live_text.specs.Flat.{shape_of}
use Rattle.live_text.specs.Steps.{after_splits}
use Rattle.live_text.specs.Own.{IsOwn, AreSeated}
use Rattle.live_text.proofs.text.LiveText.split_all.Given as goal

-- the seats so far
abbrev pub invariant-loop-number : goal.invariant-loop-number
invariant-loop-number l =
    IsOwn l.self l.patch
    × (l.patch.view ≡ after_splits (shape_of l.self.plan l.self.cpus) l.number)
    × AreSeated l.self l.number l.seats.items
    × (l.cpus ≤ vec_capacity l.seats)
