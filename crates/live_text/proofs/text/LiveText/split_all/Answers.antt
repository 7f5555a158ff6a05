use Rattle.std.proofs.Common.{◌+◌, List, ap, sym, ◌∙◌, subst, arith}
use Rattle.live_text.specs.Steps.{seated}
use Rattle.live_text.specs.Seats.{Placed}
use Rattle.live_text.specs.Own.{AreSeated}
use Rattle.live_text.proofs.Seating.{seated_more}
use Rattle.live_text.proofs.text.LiveText.split_all.Goals as goal

pub loop-number-preserved : goal.loop-number-preserved
loop-number-preserved c =
    let kept = c.loop-number.invariant in
    let made = c.in_ok-seat.ensures in (
      made.own,
      made.patch ∙ ap seated kept.1,
      subst (λ (seats : List Placed). AreSeated c.args.self.now (c.loop-number.number + 1) seats) (sym c.push_reserved.ensures.items)
          (seated_more c.args.self.now c.loop-number.number c.loop-number.seats.items c.in_ok-seat.seat kept.2 made.seat),
      omega (arith, kept.3, c.push_reserved.ensures.capacity),
    )
