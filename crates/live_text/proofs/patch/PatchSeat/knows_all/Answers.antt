use Rattle.std.proofs.Common.{ℕ, ◌≤◌, List, All, sym, ◌∙◌, subst}
use Rattle.live_text.specs.Seats.{Placed, KnowsAll}
use Rattle.live_text.proofs.Bytes.{reach_more, reach_all}
use Rattle.live_text.proofs.patch.PatchSeat.knows_all.Goals as goal

pub loop-bound-preserved : goal.loop-bound-preserved
loop-bound-preserved c =
    reach_more c.self.inside.stored c.deref-bound-items.result.now c.loop-bound.bound-index 0 c.loop-bound.invariant c.loop-bound-test.true c.if-bound-self.false

pub returns : goal.returns
returns c =
    let kept = c.self.invariant in
    let all = reach_all c.self.inside.stored c.deref-bound-items.result.now c.loop-bound.bound-index c.loop-bound.invariant c.loop-bound-test.false in
    let here : KnowsAll c.self.inside.seat.me.0.patch = subst (λ (z : ℕ × List ℕ). All (λ b. z.0 ≤ b) z.1) (λ k. (sym kept.stored_is k, (c.deref-bound-items.ensures.value ∙ sym kept.bounds_is) k)) all in
    subst (λ (s : Placed). KnowsAll s.view.patch) c.self.view_is here
