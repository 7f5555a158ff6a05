use Rattle.std.proofs.Common.{ℕ, List, length, ap, arith}
use Rattle.insn_forms.proofs.Spellings.{length-spell}
use Rattle.module_image.proofs.writing.put_form.Goals as goal

pub put-requires : goal.put-requires
put-requires c =
    let room = c.requires in
    let spelt = length-spell c.args.form c.args.at c.in-Ok.code.items c.in-Ok.ensures.bytes in
    let same = ap (λ (code : List ℕ). length code) c.deref.ensures.0 in
    omega arith
