use Rattle.std.proofs.Common.{arith, refl}
use Rattle.live_text.proofs.OwnSteps.{requests_own}
use Rattle.live_text.proofs.text.LiveText.store_request.Goals as goal

pub store-requires : goal.store-requires
store-requires c =
    let own = rw (← c.seat.view_is, ← c.self.view_is) at c.requires.own in
    let all = rw (← c.seat.view_is) at c.requires.all in
    let due = rw (← c.seat.view_is) at c.requires.due in
    requests_own c.self.inside c.seat.inside _ _ c.self.invariant c.seat.invariant own all due (omega (arith, c.len.ensures)) refl
