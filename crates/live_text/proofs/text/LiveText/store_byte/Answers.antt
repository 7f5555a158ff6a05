use Rattle.std.proofs.Common.{sym, refl}
use Rattle.live_text.proofs.OwnSteps.{writes_own}
use Rattle.live_text.proofs.text.LiveText.store_byte.Goals as goal

pub store-requires : goal.store-requires
store-requires c =
    let own = rw (← c.seat.view_is, ← c.self.view_is) at c.requires.own in
    let all = rw (← c.seat.view_is) at c.requires.all in
    let due = rw (← c.seat.view_is) at c.requires.due in
    writes_own c.self.inside c.seat.inside _ _ c.index-write.result.now c.self.invariant c.seat.invariant own all due c.index-write.ensures refl (sym c.from.ensures)
