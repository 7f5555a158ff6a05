use Rattle.std.proofs.Common.{◌<◌, length, ap, sym, subst, refl}
use Rattle.live_text.specs.declared.view.Shape.{Shape}
use Rattle.live_text.proofs.OwnSteps.{fetches_own}
use Rattle.live_text.proofs.Bytes.{fetched_had}
use Rattle.live_text.proofs.PatchKeeps.{Seated}
use Rattle.live_text.proofs.text.LiveText.fetch.Goals as goal

pub load-word-requires : goal.load-word-requires
load-word-requires c =
    let own = rw (← c.seat.view_is, ← c.self.view_is) at c.requires.own in
    let stays = rw (← c.seat.view_is) at c.requires.stays in
    let below = rw (← c.self.view_is) at c.requires.below in
    fetches_own c.self.inside c.seat.inside c.args.number c.self.invariant c.seat.invariant own stays
    (subst (λ (p : Shape). c.args.number < length p.starts) (sym c.self.invariant.laid.shape) below)

pub returns-clause-had : goal.returns-clause-had
returns-clause-had c =
    let own = rw (← c.seat.view_is, ← c.self.view_is) at c.requires.own in
    let below = rw (← c.self.view_is) at c.requires.below in
    let told = c.load-word.ensures.2 in
    fetched_had c.seat.inside.seat.me.0 c.load-word.new.seat.me.0 c.args.number c.load-word.result _ (ap (λ (m : Seated). m.0) told.0) refl told.2
    (subst (λ (p : Shape). c.args.number < length p.starts) (sym own.shape) below)
