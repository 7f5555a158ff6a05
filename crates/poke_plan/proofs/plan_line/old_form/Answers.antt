use Rattle.std.proofs.Common.{◌≡◌, ◌↔◌, Option, None, Some, arith, sym, subst}
use Rattle.insn_forms.specs.declared.forms.Form.{Form}
use Rattle.poke_plan.specs.PlanLine.{IsOldForm}
use Rattle.poke_plan.proofs.PlanLines.{old_none, old_other, old_found, bytes_of_wish}
use Rattle.poke_plan.proofs.plan_line.old_form.Goals as goal

pub returns-in_err-old : goal.returns-in_err-old
returns-in_err-old c old =
    subst (λ (o : Option Form). (o ≡ Some old) ↔ IsOldForm c.args.wish.now old) (sym c.from_residual.ensures) (old_none c.args.wish.now (bytes_of_wish c.args.wish.now _ None c.deref.ensures.0 c.in_err-old.ensures) old)

pub returns-then-size : goal.returns-then-size
returns-then-size c = old_other c.args.wish.now c.in_ok-old.old (bytes_of_wish c.args.wish.now _ _ c.deref.ensures.0 c.in_ok-old.ensures) (λ same long. omega (arith, c.size.ensures, c.size-2.ensures))

pub returns-then-len-from : goal.returns-then-len-from
returns-then-len-from c =
    old_other c.args.wish.now c.in_ok-old.old (bytes_of_wish c.args.wish.now _ _ c.deref.ensures.0 c.in_ok-old.ensures) (λ same long. omega (arith, c.len.ensures.value, c.size-3.ensures, c.from.ensures))

pub returns : goal.returns
returns c =
    old_found c.args.wish.now c.in_ok-old.old (bytes_of_wish c.args.wish.now _ _ c.deref.ensures.0 c.in_ok-old.ensures) (omega (arith, c.size.ensures, c.size-2.ensures)) (omega (arith, c.len.ensures.value, c.size-3.ensures, c.from.ensures))
