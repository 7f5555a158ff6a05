use Rattle.std.proofs.Common.{◌≡◌, ◌++◌}
use Rattle.module_image.proofs.Listed.{entries_before}
use Rattle.module_image.proofs.listing.add_table.Given as goal

abbrev pub invariant-loop-i : goal.invariant-loop-i
invariant-loop-i l = l.list.items ≡ l.initial.list.items ++ entries_before l.kind l.section.addr l.section.content.now l.i
