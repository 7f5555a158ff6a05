use Rattle.std.proofs.Common.{arith}
use Rattle.module_image.proofs.Listed.{length-entries_of}
use Rattle.module_image.proofs.listing.entry_count.Goals as goal

pub returns : goal.returns
returns c = omega (arith, length-entries_of c.args.tables.now c.requires, c.entry_count.ensures.same, c.entry_count-2.ensures.same, c.entry_count-3.ensures.same)
