use Rattle.std.proofs.Common.{◌≡◌, drop, length}
use Rattle.module_image.specs.Sites.{starts_of, written}
use Rattle.module_image.proofs.writing.write_all.Given as goal

abbrev pub invariant-loop-site : goal.invariant-loop-site
invariant-loop-site l =
    (written l.base (starts_of l.keys) l.sites l.initial.text ≡ written l.base (starts_of l.keys) (drop l.site-index l.sites) l.text)
    × (length l.text ≡ length l.initial.text)
