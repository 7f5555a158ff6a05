use Rattle.std.proofs.Common.{◌≡◌, ◌≤◌, ◌<◌, ◌+◌, ◌-◌, ◌∙◌, length, take, drop, ap, sym, refl, subst, arith}
use Rattle.std.specs.Prelude.{slice_index}
use Rattle.stale_fetch.specs.Log.{LogState}
use Rattle.stale_fetch.specs.Past.{candidates}
use Rattle.stale_fetch.proofs.LogFields.{was_read, values_of, take_rest}
use Rattle.stale_fetch.proofs.log.LogText.values.Goals as goal

pub returns-clause-values : goal.returns-clause-values
returns-clause-values c =
    let is = sym c.self.view_is in
    let from : c.self.inside.base ≤ c.args.at = subst (λ (log : LogState). log.past.base ≤ c.args.at) is c.requires.inside.from in
    let below : c.args.at < c.self.inside.base + length c.self.inside.start.items = subst (λ (log : LogState). c.args.at < log.past.base + length log.past.text) is c.requires.inside.below in
    let known : c.args.cpu < length c.self.inside.marks.items = subst (λ (log : LogState). c.args.cpu < length log.past.marks) is c.requires.known in
    let mark : c.index.result.now ≡ slice_index c.self.inside.marks.items c.args.cpu = was_read c.self.inside.marks.items c.from.result c.args.cpu c.index.result.now known c.from.ensures c.index.ensures in
    let marks = c.self.invariant.marks c.args.cpu in
    let read = was_read c.self.inside.start.items (c.args.at - c.self.inside.base) (c.args.at - c.self.inside.base) c.index-start.result.now (omega arith) refl c.index-start.ensures in
    values_of c.self.inside.base (slice_index c.self.inside.marks.items c.args.cpu) c.args.at c.index-start.result.now c.byte_after-first.result c.self.inside.start.items c.self.inside.writes.items (take c.index.result.now c.deref.result.now) (take (length c.deref-2.result.now - c.index.result.now) (drop c.index.result.now c.deref-2.result.now)) c.gathered.result.items marks from read (ap (λ n. take n c.deref.result.now) mark ∙ ap (take (slice_index c.self.inside.marks.items c.args.cpu)) c.deref.ensures.value) (take_rest _ _ _ _ c.deref-2.ensures.value mark) c.byte_after-first.ensures c.gathered.ensures.values
    ∙ ap (λ (log : LogState). candidates log.past c.args.cpu c.args.at) c.self.view_is
