use Rattle.std.proofs.Common.{rules}
use Rattle.module_image.proofs.Ascending.{ascending_from_sort}
use Rattle.module_image.proofs.site_list.ascend.Goals as goal

pub returns-clause-list : goal.returns-clause-list
returns-clause-list c =
    ascending_from_sort c.args.sites.now.items c.sort_by_key.new.self.items c.in_ok-sort_by_key.ensures.sorted c.in_ok-sort_by_key.ensures.stable (λ a r q k. search rules)
