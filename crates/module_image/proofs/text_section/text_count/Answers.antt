use Rattle.std.proofs.Common.{◌∙◌, sym, arith}
use Rattle.module_image.proofs.Counted.{counted_one, counted_none}
use Rattle.module_image.proofs.text_section.text_count.Goals as goal
use Rattle.module_image.proofs.text_section.text_count.Goals.{then-is_text, else-is_text}

pub loop-i-preserved : goal.loop-i-preserved
loop-i-preserved c =
    elim c.if-is_text.branch [
      | then-is_text w ↦ counted_one c.args.file.now.sections c.loop-i.i c.loop-i.count c.if-is_text.count (omega arith) c.loop-i.invariant (sym c.is_text.ensures ∙ w.if-is_text.true) w.count-is
      | else-is_text w ↦ counted_none c.args.file.now.sections c.loop-i.i c.loop-i.count c.if-is_text.count (omega arith) c.loop-i.invariant (sym c.is_text.ensures ∙ w.if-is_text.false) w.count-is
    ]
