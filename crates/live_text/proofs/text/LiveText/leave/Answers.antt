use Rattle.std.proofs.Common.{arith}
use Rattle.live_text.proofs.OwnSteps.{leaves_own}
use Rattle.live_text.proofs.text.LiveText.leave.Goals as goal

pub store-requires : goal.store-requires
store-requires c =
    let own = rw (← c.seat.view_is, ← c.self.view_is) at c.requires.own in
    let stays = rw (← c.seat.view_is) at c.requires.stays in
    leaves_own c.self.inside c.seat.inside _ c.self.invariant c.seat.invariant own stays (omega (arith, c.len.ensures, c.from.ensures))
