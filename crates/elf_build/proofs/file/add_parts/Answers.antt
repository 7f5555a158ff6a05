use Rattle.std.proofs.Common.{arith}
use Rattle.elf_build.proofs.Appends.{headers-more, laid-more}
use Rattle.elf_build.proofs.file.add_parts.Goals as goal

pub loop-part-preserved : goal.loop-part-preserved
loop-part-preserved c =
    let added = c.in_ok-add_part.ensures in (
      laid-more c.args.plan.now c.args.parts.now c.loop-part.part-index _ c.loop-part.out.items c.add_part.new.out.items _ c.loop-part-test.true c.loop-part.invariant.0 added.content,
      headers-more c.args.plan.now c.args.parts.now c.loop-part.part-index _ c.loop-part.out.items c.add_part.new.out.items c.loop-part.headers.items c.add_part.new.headers.items _ c.loop-part-test.true c.loop-part.invariant.1 added.content added.header,
      (let before = c.loop-part.invariant.2 in let more = added.room in omega arith),
    )
