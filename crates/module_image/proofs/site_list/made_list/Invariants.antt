use Rattle.std.proofs.Common.{◌≡◌, ◌++◌, drop, map}
use Rattle.module_image.specs.Sites.{site_of}
use Rattle.module_image.proofs.site_list.made_list.Given as goal

abbrev pub invariant-loop-entry : goal.invariant-loop-entry
invariant-loop-entry l =
    l.sites.items ++ map (site_of l.text.base l.text.bytes.now l.keys.jumps.items l.keys.calls.items) (drop l.entry-index l.list)
    ≡ map (site_of l.text.base l.text.bytes.now l.keys.jumps.items l.keys.calls.items) l.list
