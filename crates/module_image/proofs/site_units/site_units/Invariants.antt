use Rattle.std.proofs.Common.{take}
use Rattle.module_image.specs.Layout.{laid}
use Rattle.module_image.specs.Sweeping.{HasSites}
use Rattle.module_image.proofs.site_units.site_units.Given as goal

abbrev pub invariant-loop-number : goal.invariant-loop-number
invariant-loop-number l = HasSites (laid l.code.base l.code.bytes.now (take l.number l.code.sites.now)) l.units.items 0
