use Rattle.std.proofs.Common.{length, ap, arith}
use Rattle.stale_fetch.proofs.LogFields.{held-none, marks-none}
use Rattle.stale_fetch.proofs.log.LogText.new.Goals as goal

pub invariant_of-result : goal.invariant_of-result
invariant_of-result c =
    let starts = ap length c.in_ok-start.ensures.items in
    let holds = ap length c.in_ok-held.ensures.items in
    let none = ap length c.in_ok-writes.ensures.items in
    let room = c.in_ok-writes.ensures.exact in
    record {
      ends = omega arith;
      whole = omega arith;
      held = held-none c.args.base c.args.text.now c.in_ok-start.start.items c.in_ok-held.held.items c.in_ok-writes.writes.items c.in_ok-start.ensures.items c.in_ok-held.ensures.items c.in_ok-writes.ensures.items;
      marks = λ cpu. let none_yet = marks-none c.in_ok-marks.marks.items c.from.result (c.in_ok-marks.ensures.items_if_clones_equal (λ y e. e)) cpu in omega arith;
      writes = omega arith;
      room = omega arith;
    }
