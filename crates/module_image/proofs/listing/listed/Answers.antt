use Rattle.module_image.proofs.Listed.{all_listed}
use Rattle.module_image.proofs.listing.listed.Goals as goal

pub returns-clause-list : goal.returns-clause-list
returns-clause-list c =
    all_listed c.args.tables.now c.new-list.result.items c.add_table.new.list.items c.add_table-2.new.list.items c.add_table-3.new.list.items
    c.new-list.ensures.items c.in_ok-add_table.ensures.added c.in_ok-add_table-2.ensures.added c.in_ok-add_table-3.ensures.added
