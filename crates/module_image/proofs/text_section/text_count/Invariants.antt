use Rattle.module_image.proofs.Counted.{AreCounted}
use Rattle.module_image.proofs.text_section.text_count.Given as goal

abbrev pub invariant-loop-i : goal.invariant-loop-i
invariant-loop-i l = AreCounted l.file.sections l.i l.count
