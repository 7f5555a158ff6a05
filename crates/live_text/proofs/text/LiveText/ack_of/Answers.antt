use Rattle.std.proofs.Common.{arith}
use Rattle.live_text.proofs.OwnSteps.{loads_own}
use Rattle.live_text.proofs.text.LiveText.ack_of.Goals as goal

pub load-ack-requires : goal.load-ack-requires
load-ack-requires c =
    let own = rw (← c.seat.view_is, ← c.self.view_is) at c.requires.own in
    let small = rw (← c.self.view_is) at c.requires.cpu in
    loads_own c.self.inside c.seat.inside _ c.args.cpu c.self.invariant c.seat.invariant own small (omega (arith, c.len.ensures, c.from.ensures))
