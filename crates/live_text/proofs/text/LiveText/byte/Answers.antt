use Rattle.std.proofs.Common.{◌≡◌, ◌<◌, ap, sym, subst, ◌∙◌, ℕ, List, length, get_or, Option, Some, None, arith}
use Rattle.std.proofs.lemmas.List.{get_or_default}
use Rattle.live_text.specs.declared.view.Shape.{Shape}
use Rattle.live_text.specs.Rule.{cached}
use Rattle.live_text.specs.Seats.{Placed, Sits}
use Rattle.live_text.specs.Calls.{HadSince}
use Rattle.live_text.proofs.Bytes.{cached_had}
use Rattle.live_text.proofs.text.LiveText.byte.Goals as goal

pub returns-in-Some-clause-had : goal.returns-in-Some-clause-had
returns-in-Some-clause-had c =
    let kept = c.seat.invariant in
    let stays = rw (← c.seat.view_is) at c.requires.stays in
    let own = rw (← c.seat.view_is) at c.requires.own in
    let sits : Sits c.seat.inside.seat.me.0 = kept.sits stays in
    let below = subst (λ (p : Shape). c.number_of-number.result < length p.starts) (sym own.shape) c.number_of-number.ensures.below in
    let size : length c.seat.inside.cache.items ≡ length c.seat.inside.seat.me.0.shape.starts = ap (λ (l : List (Option ℕ)). length l) (sym kept.cache_is) ∙ sits.cache_size in
    let held : cached c.seat.inside.seat.me.0.cpu c.number_of-number.result ≡ Some c.in-Some.byte = ap (λ (l : List (Option ℕ)). get_or l c.number_of-number.result None) kept.cache_is ∙ get_or_default c.seat.inside.cache.items c.number_of-number.result None c.index-cached.result.now (omega (arith, size, below)) ∙ sym c.index-cached.ensures ∙ c.in-Some.is in
    let had : HadSince c.seat.inside.seat.me.0 c.number_of-number.result c.in-Some.byte = cached_had c.seat.inside.seat.me.0 c.number_of-number.result c.in-Some.byte sits held in
    subst (λ (z : Placed × ℕ). HadSince z.0.view z.1 c.in-Some.byte) (λ k. (c.seat.view_is k, c.number_of-number.ensures.number k)) had

pub returns-in_default-clause-had : goal.returns-in_default-clause-had
returns-in_default-clause-had c =
    subst (λ (b : ℕ). HadSince c.fetch.new.seat.view b c.fetch.result) c.number_of-number.ensures.number c.fetch.ensures.had
