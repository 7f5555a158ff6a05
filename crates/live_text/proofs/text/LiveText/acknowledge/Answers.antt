use Rattle.std.proofs.Common.{arith}
use Rattle.live_text.proofs.OwnSteps.{acks_own}
use Rattle.live_text.proofs.text.LiveText.acknowledge.Goals as goal

pub store-requires : goal.store-requires
store-requires c =
    let own = rw (← c.seat.view_is, ← c.self.view_is) at c.requires.own in
    let stays = rw (← c.seat.view_is) at c.requires.stays in
    let least = rw (← c.seat.view_is) at c.requires.least in
    let most = rw (← c.seat.view_is) at c.requires.most in
    acks_own c.self.inside c.seat.inside _ c.args.g c.self.invariant c.seat.invariant own stays (omega (arith, c.len.ensures, c.from.ensures)) least most
