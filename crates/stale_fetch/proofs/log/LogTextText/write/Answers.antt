use Rattle.std.proofs.Common.{◌≤◌, ◌∙◌, ◌<◌, ◌+◌, subst, sym, arith, length, length-set, map}
use Rattle.std.proofs.lemmas.List.{length-map}
use Rattle.stale_fetch.specs.LogInside.{write_of}
use Rattle.stale_fetch.specs.Log.{LogState}
use Rattle.stale_fetch.proofs.LogFields.{held-push, marks-push}
use Rattle.stale_fetch.proofs.log.LogTextText.write.Goals as goal

pub invariant_of-self : goal.invariant_of-self
invariant_of-self c =
    let is = sym c.self.view_is in
    let items = c.push_reserved.ensures.items in
    let capacity = c.push_reserved.ensures.capacity in
    let from : c.self.inside.base ≤ c.args.at = subst (λ (log : LogState). log.past.base ≤ c.args.at) is c.requires.inside.from in
    let below : c.args.at < c.self.inside.base + length c.self.inside.start.items = subst (λ (log : LogState). c.args.at < log.past.base + length log.past.text) is c.requires.inside.below in
    let room : length (map write_of c.self.inside.writes.items) < c.self.inside.room = subst (λ (log : LogState). length log.past.writes < log.room) is c.requires.room in
    let mapped = length-map c.self.inside.writes.items write_of in
    let grown = c.push_reserved.ensures.len in
    record {
      ends = c.self.invariant.ends;
      whole = length-set c.self.inside.held.items _ c.args.byte ∙ c.self.invariant.whole;
      held = held-push c.self.inside.base c.self.inside.start.items c.self.inside.held.items c.self.inside.writes.items c.push_reserved.new.self.items (record { at = c.args.at; byte = c.args.byte }) items from below c.self.invariant.whole c.self.invariant.held;
      marks = marks-push c.self.inside.marks.items c.self.inside.writes.items c.push_reserved.new.self.items (record { at = c.args.at; byte = c.args.byte }) items c.self.invariant.marks;
      writes = omega arith;
      room = omega arith;
    }
