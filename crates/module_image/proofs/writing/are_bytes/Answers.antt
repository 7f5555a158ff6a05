use Rattle.std.proofs.Common.{◌≡◌, ◌∙◌, get_or, sym, arith}
use Rattle.std.proofs.lemmas.Option.{same_Some, slice_get-get_or}
use Rattle.module_image.proofs.writing.are_bytes.Goals as goal

pub returns : goal.returns
returns c = λ k d lt.
    let bytes = c.args.text.now in
    let same : get_or bytes k 0 ≡ get_or bytes k d = same_Some (get_or bytes k 0) (get_or bytes k d) (sym (slice_get-get_or bytes k 0 lt) ∙ slice_get-get_or bytes k d lt) in
    omega (arith, same, c.type_inv.text k)
