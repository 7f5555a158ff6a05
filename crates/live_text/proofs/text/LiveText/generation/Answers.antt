use Rattle.std.proofs.Common.{arith}
use Rattle.live_text.proofs.OwnSteps.{looks_own}
use Rattle.live_text.proofs.text.LiveText.generation.Goals as goal

pub load-requires : goal.load-requires
load-requires c =
    let own = rw (← c.seat.view_is, ← c.self.view_is) at c.requires.own in
    let stays = rw (← c.seat.view_is) at c.requires.stays in
    looks_own c.self.inside c.seat.inside _ c.self.invariant c.seat.invariant own stays (omega (arith, c.len-word.ensures))
