use Rattle.std.proofs.Common.{length}
use Rattle.module_image.proofs.SiteLaws.{room_at}
use Rattle.module_image.proofs.site_list.made_list.Goals as goal

pub site_of-requires-clause-from : goal.site_of-requires-clause-from
site_of-requires-clause-from c =
    (room_at c.args.text.now.base (length c.args.text.now.bytes.now) c.args.list.now c.loop-entry.entry-index _ c.loop-entry-test.true c.requires.inside).from

pub site_of-requires-clause-to : goal.site_of-requires-clause-to
site_of-requires-clause-to c =
    (room_at c.args.text.now.base (length c.args.text.now.bytes.now) c.args.list.now c.loop-entry.entry-index _ c.loop-entry-test.true c.requires.inside).to
