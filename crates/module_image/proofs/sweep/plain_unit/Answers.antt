use Rattle.std.proofs.Common.{true, false}
use Rattle.module_image.specs.Text.{layout_in}
use Rattle.module_image.proofs.Sweeps.{plain_noted}
use Rattle.module_image.proofs.sweep.plain_unit.Goals as goal

pub returns-then-nothing_between : goal.returns-then-nothing_between
returns-then-nothing_between c =
    let length = c.in-Ok.ensures.length in
    plain_noted (layout_in c.args.code.now) c.args.units.now c.args.offset c.from.result c.in-Ok.insn c.in-Ok.len c.nothing_between.result true c.requires.sites c.in-Ok.ensures.reads length.0 length.2 c.requires.within c.from.ensures c.nothing_between.ensures c.if-nothing_between.true

pub returns-else-nothing_between : goal.returns-else-nothing_between
returns-else-nothing_between c =
    let length = c.in-Ok.ensures.length in
    plain_noted (layout_in c.args.code.now) c.args.units.now c.args.offset c.from.result c.in-Ok.insn c.in-Ok.len c.nothing_between.result false c.requires.sites c.in-Ok.ensures.reads length.0 length.2 c.requires.within c.from.ensures c.nothing_between.ensures c.if-nothing_between.false
