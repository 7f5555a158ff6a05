use Rattle.std.proofs.Common.{lit<, arith}
use Rattle.stale_fetch.proofs.ByteSets.{isnt_found, set_room, push_set}
use Rattle.stale_fetch.proofs.values.add_value.Goals as goal

pub push-requires : goal.push-requires
push-requires c =
    (lit< tt, set_room c.args.values.now.items c.args.byte (omega arith) c.requires (isnt_found c.args.values.now.items c.deref.result.now c.args.byte c.contains.result c.deref.ensures.0 c.contains.ensures.value c.if-not-contains.true))

pub returns-then-not-contains-clause-each_once : goal.returns-then-not-contains-clause-each_once
returns-then-not-contains-clause-each_once c =
    push_set c.args.values.now.items c.push.new.self.items c.args.byte (omega arith) c.requires (isnt_found c.args.values.now.items c.deref.result.now c.args.byte c.contains.result c.deref.ensures.0 c.contains.ensures.value c.if-not-contains.true) c.push.ensures.items
