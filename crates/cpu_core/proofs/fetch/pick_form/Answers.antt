use Rattle.std.proofs.Common.{◌+◌, ◌/◌, ◌%◌, refl, slice_index, ℕ, List, length, subst, ◌∙◌}
use Rattle.stale_fetch.specs.Past.{candidates}
use Rattle.stale_fetch.specs.Text.{Covers}
use Rattle.cpu_core.proofs.Begun.{one-picked}
use Rattle.cpu_core.proofs.fetch.pick_form.Goals as goal

pub bytes-preserved : goal.bytes-preserved
bytes-preserved g c =
    one-picked c.args.word (g.T.Text.shape c.args.text.now) (g.T.Text.stands c.args.text.now) c.args.cpu c.args.at
    c.bytes.bytes.items c.push.new.self.items c.pick.result c.bytes.choices (c.bytes.choices / 256) c.bytes.invariant c.pick.type_inv
    c.push.ensures.items
    (subst (λ (l : List ℕ). Covers (g.T.Text.shape c.args.text.now) (c.args.at + length l)) c.deref.ensures.0 (c.if-not-goes_on.ensures.0 refl))
    refl
    (λ p is. c.pick.ensures p is ∙ (λ i. slice_index (candidates p c.args.cpu (c.args.at + c.len-in-bytes.ensures.value i)) (c.low_byte.ensures i % length (candidates p c.args.cpu (c.args.at + c.len-in-bytes.ensures.value i)))))
