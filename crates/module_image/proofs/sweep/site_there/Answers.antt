use Rattle.std.proofs.Common.{◌∙◌}
use Rattle.module_image.specs.Text.{layout_in}
use Rattle.module_image.proofs.Marking.{site_told}
use Rattle.module_image.proofs.sweep.site_there.Goals as goal

pub returns : goal.returns
returns c = c.site_of.ensures ∙ site_told (layout_in c.args.code.now) c.args.units.now c.args.offset c.requires.sites c.requires.within
