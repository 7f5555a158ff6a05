-- The candidate was the only form, so the test of it decides.
use Rattle.std.proofs.lemmas.Option.{none-some}
use Rattle.insn_forms.proofs.Decoding.{decodes_none, decodes_some, no_other, unspelt, starts, starts_otherwise}
use Rattle.insn_forms.proofs.forms.decode_form.Goals as goal

pub returns-in_err-form : goal.returns-in_err-form
returns-in_err-form c =
    rw c.from_residual.ensures
    (decodes_none c.args.at c.args.bytes.now (λ form begins. none-some form (c.in_err-form.ensures form begins)))

pub returns-in_default : goal.returns-in_default
returns-in_default c =
    decodes_none _ _ (no_other _ _ _ c.in_ok-form.ensures (unspelt _ _ _ c.in_default.ensures.no_reach))

pub returns-then-starts_with : goal.returns-then-starts_with
returns-then-starts_with c =
    decodes_some _ _ _ c.in_ok-form.ensures
    (starts _ _ _ _ _ c.in-Ok.ensures.bytes c.deref.ensures.0 c.if-starts_with.ensures.value)

pub returns-else-starts_with : goal.returns-else-starts_with
returns-else-starts_with c =
    decodes_none _ _
    (no_other _ _ _ c.in_ok-form.ensures
    (starts_otherwise _ _ _ _ _ c.in-Ok.ensures.bytes c.deref.ensures.0 c.if-starts_with.ensures.value))
