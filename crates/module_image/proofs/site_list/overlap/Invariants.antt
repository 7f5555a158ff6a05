use Rattle.std.proofs.Common.{◌≡◌, drop}
use Rattle.module_image.specs.Sites.{overlap_after}
use Rattle.module_image.proofs.site_list.overlap.Given as goal

abbrev pub invariant-loop-site : goal.invariant-loop-site
invariant-loop-site l = overlap_after 0 l.list ≡ overlap_after l.end (drop l.site-index l.list)
