use Rattle.std.proofs.Common.{◌≡◌, ◌<◌, ◌+◌, ℕ, List, [], ◌∷◌, length, length-append, get_or, ap, ◌∙◌, subst, arith}
use Rattle.std.specs.Mem.Slots.{slots_items}
use Rattle.live_text.specs.declared.view.Shape.{Shape}
use Rattle.live_text.specs.Laid.{laid_shape}
use Rattle.live_text.specs.Seats.{Placed}
use Rattle.live_text.specs.Own.{AreBytes}
use Rattle.live_text.specs.PatchKept.{patch_placed}
use Rattle.live_text.proofs.OwnSteps.{shape_is}
use Rattle.live_text.proofs.Seating.{AreWords, final_bytes, word_at, bytes_more}
use Rattle.live_text.proofs.text.LiveText.finish.Goals as goal

pub overflow_cast-word : goal.overflow_cast-word
overflow_cast-word c =
    let p : Shape = laid_shape c.self.inside.table.shared.key in
    let words = slots_items c.close_with-closed.result.words in
    let are : AreWords p c.patch.inside.seat.me.0.patch.done words = final_bytes p _ _ words _ c.patch.invariant.patches.role c.close_with-closed.ensures.values.2 in
    let told : length p.starts ≡ length c.self.inside.laid.starts.items = ap (λ (q : Shape). length q.starts) (ap laid_shape c.self.invariant.keyed) in
    let below : c.loop-number.number < length p.starts = omega (arith, c.loop-number-test.true, c.len-number-end.ensures, told) in
    let small : get_or words c.loop-number.number 0 < 256 = are.small c.loop-number.number below in
    let is : get_or words c.loop-number.number 0 ≡ c.word.result = word_at words c.loop-number.number c.word.result c.word.ensures in
    omega (arith, small, is)

pub loop-number-preserved : goal.loop-number-preserved
loop-number-preserved c =
    let kept = c.loop-number.invariant in
    let words = slots_items c.close_with-closed.result.words in
    let pushed = c.push_reserved.ensures in (
      ap (λ (l : List ℕ). length l) pushed.items ∙ length-append c.loop-number.room.items (c.word.result ∷ []) ∙ ap (λ (k : ℕ). k + 1) kept.0,
      (λ b below. ap (λ (l : List ℕ). get_or l b 0) pushed.items ∙ bytes_more c.loop-number.room.items words c.loop-number.number c.word.result kept.0 kept.1 c.word.ensures b below),
      omega (arith, kept.2, pushed.capacity),
    )

pub returns : goal.returns
returns c =
    let p : Shape = laid_shape c.self.inside.table.shared.key in
    let words = slots_items c.close_with-closed.result.words in
    let kept = c.loop-number.invariant in
    let items = c.loop-number.room.items in
    let done = c.patch.inside.seat.me.0.patch.done in
    let own = rw (← c.patch.view_is, ← c.self.view_is) at c.requires.own in
    let are : AreWords p done words = final_bytes p _ _ words _ c.patch.invariant.patches.role c.close_with-closed.ensures.values.2 in
    let told : length p.starts ≡ length c.self.inside.laid.starts.items = ap (λ (q : Shape). length q.starts) (ap laid_shape c.self.invariant.keyed) in
    let size : length items ≡ length p.starts = omega (arith, kept.0, c.loop-number-test.false, c.loop-number.auto.number-end, c.len-number-end.ensures, told) in
    let bytes : AreBytes p done items = record { size = size; values = λ b below. kept.1 b (omega (arith, size, below, kept.0)) ∙ are.bytes b below } in
    let same : p ≡ c.patch.inside.seat.me.0.shape = shape_is c.self.inside (patch_placed c.patch.inside) c.self.invariant own in
    let here : AreBytes c.patch.inside.seat.me.0.shape done items = subst (λ (q : Shape). AreBytes q done items) same bytes in
    record { bytes = subst (λ (s : Placed). AreBytes s.view.shape s.view.patch.done items) c.patch.view_is here }
