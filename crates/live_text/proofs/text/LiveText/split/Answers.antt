use Rattle.std.proofs.Common.{ℕ, ◌<◌, sym, subst}
use Rattle.live_text.proofs.OwnSteps.{splits_own}
use Rattle.live_text.proofs.text.LiveText.split.Goals as goal

pub split_seat-seat-requires : goal.split_seat-seat-requires
split_seat-seat-requires c =
    let own = rw (← c.patch.view_is, ← c.self.view_is) at c.requires.own in
    let next = rw (← c.patch.view_is) at c.requires.next in
    let below = rw (← c.self.view_is) at c.requires.below in
    splits_own c.self.inside c.patch.inside c.self.invariant c.patch.invariant own
    (subst (λ (n : ℕ). n < c.self.inside.laid.cpus) (sym next) below)
