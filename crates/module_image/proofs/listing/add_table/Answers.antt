use Rattle.module_image.proofs.Listed.{entry_added}
use Rattle.module_image.proofs.listing.add_table.Goals as goal

pub loop-i-preserved : goal.loop-i-preserved
loop-i-preserved c =
    entry_added c.args.kind c.in-Some.section.addr c.in-Some.section.content.now c.loop-i.i c.args.list.now.items c.loop-i.list.items c.push.new.self.items c.entry_at.result
    c.loop-i.invariant c.entry_at.ensures c.in_ok-push.ensures.items
