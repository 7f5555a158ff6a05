use Rattle.std.proofs.Common.{◌∙◌, ap, arith, refl, sym}
use Rattle.std.specs.Vec.{with_items}
use Rattle.std.proofs.lemmas.List.{with_items_is}
use Rattle.key_state.specs.Changes.{first_foreign}
use Rattle.key_state.specs.Settled.{SettledState}
use Rattle.key_state.proofs.Settling.{all_inside, asked, clash_ends, few_asked, found_at, settled_after}
use Rattle.key_state.proofs.settled.Settled.take.Goals as goal

pub clash_at-requires : goal.clash_at-requires
clash_at-requires c =
    let of = rw (← c.self.view_is) at c.requires.of in
    let allowed = c.in_default.ensures.allowed in
    let ask = asked c.args.image.now _ c.args.command.now allowed.0 c.changes.new.out.list c.accepted.ensures of c.requires.command allowed.1 c.in_default.ensures.changes in
    let first = ap (first_foreign c.args.image.now) (sym c.list.ensures) ∙ sym c.first_foreign.ensures ∙ c.in-Some.is in
    (found_at c.args.image.now _ c.args.command.now allowed.0 c.changes.new.out.list c.deref.result.now c.in-Some.change ask c.deref.ensures.value first).inside

pub returns-in-Some-clause-outcome : goal.returns-in-Some-clause-outcome
returns-in-Some-clause-outcome c =
    let of = rw (← c.self.view_is) at c.requires.of in
    let allowed = c.in_default.ensures.allowed in
    let ask = asked c.args.image.now _ c.args.command.now allowed.0 c.changes.new.out.list c.accepted.ensures of c.requires.command allowed.1 c.in_default.ensures.changes in
    let first = ap (first_foreign c.args.image.now) (sym c.list.ensures) ∙ sym c.first_foreign.ensures ∙ c.in-Some.is in
    rw (← c.self.view_is)
    (clash_ends c.args.image.now _ c.args.command.now allowed.0 c.changes.new.out.list c.deref.result.now c.in-Some.change c.clash_at.result.at c.clash_at.result.found.items c.clash_at.result.expected.items ask c.deref.ensures.value first c.clash_at.ensures.at c.clash_at.ensures.found c.clash_at.ensures.expected)

pub write_changes-requires : goal.write_changes-requires
write_changes-requires c =
    let of = rw (← c.self.view_is) at c.requires.of in
    let allowed = c.in_default.ensures.allowed in
    let ask = asked c.args.image.now _ c.args.command.now allowed.0 c.changes.new.out.list c.accepted.ensures of c.requires.command allowed.1 c.in_default.ensures.changes in
    all_inside c.args.image.now _ c.args.command.now allowed.0 c.changes.new.out.list c.list-2.result.now c.deref_mut.result.now ask c.list-2.ensures c.deref_mut.ensures.value

pub overflow_cast-result : goal.overflow_cast-result
overflow_cast-result c =
    let of = rw (← c.self.view_is) at c.requires.of in
    let allowed = c.in_default.ensures.allowed in
    let ask = asked c.args.image.now _ c.args.command.now allowed.0 c.changes.new.out.list c.accepted.ensures of c.requires.command allowed.1 c.in_default.ensures.changes in
    let few = few_asked c.args.image.now _ c.args.command.now allowed.0 c.changes.new.out.list c.list-3.result.now ask c.list-3.ensures in
    omega (arith, few)

pub returns-clause-of : goal.returns-clause-of
returns-clause-of c =
    let of = rw (← c.self.view_is) at c.requires.of in
    let new = c.commit.new.self in
    let ask = asked c.args.image.now _ c.args.command.now new c.changes.new.out.list c.accepted.ensures of c.requires.command c.commit.ensures.committed c.in_default.ensures.changes in
    let none = ap (first_foreign c.args.image.now) (sym c.list.ensures) ∙ sym c.first_foreign.ensures ∙ c.in_default-first_foreign.is in
    let long = c.write_changes.ensures.length ∙ c.deref_mut.ensures.len in
    let next : SettledState = record { base = c.self.inside.base; text = (with_items c.self.inside.text c.write_changes.new.text).items; states = new; changed = c.changes.new.out.list; room = c.changes.new.out.room } in
    settled_after c.args.image.now _ next c.args.command.now new c.changes.new.out.list c.list-2.result.now c.deref_mut.result.now ask c.list-2.ensures c.deref_mut.ensures.value none refl refl (with_items_is c.self.inside.text c.write_changes.new.text long ∙ c.write_changes.ensures.bytes) c.in_default.ensures.room
