-- Each arm answers what its first byte names; where the bytes end too early, or begin with no known
-- opcode, they begin with no spelling.
use Rattle.std.proofs.Common.{Some, ap, ◌∙◌, arith, refl}
use Rattle.insn_forms.specs.declared.forms.Form.TheVariants.{Jmp8, Jmp32, Call}
use Rattle.insn_forms.proofs.Decoding.{named_first, named_fits, some_first, first_known}
use Rattle.insn_forms.proofs.Spellings.{near, far}
use Rattle.insn_forms.proofs.forms.candidate.Goals as goal

pub returns-in_err-first : goal.returns-in_err-first
returns-in_err-first c form begins = absurd (some_first c.in_err-first.ensures.value begins)

pub returns-in-102 : goal.returns-in-102
returns-in-102 c form begins = named_first c.in_ok-first.ensures.value c.in-102.is begins

pub returns-in-15 : goal.returns-in-15
returns-in-15 c form begins = named_first c.in_ok-first.ensures.value c.in-15.is begins

pub returns-in-195 : goal.returns-in-195
returns-in-195 c form begins = named_first c.in_ok-first.ensures.value c.in-195.is begins

pub returns-in_default : goal.returns-in_default
returns-in_default c form begins =
    let known = first_known c.in_ok-first.ensures.value begins in absurd (omega arith)

pub returns-in_ok-near_target-in-235 : goal.returns-in_ok-near_target-in-235
returns-in_ok-near_target-in-235 c form begins =
    ap (λ target. Some (Jmp8 target)) c.in_ok-near_target-in-235.ensures.1
    ∙ named_first c.in_ok-first.ensures.value c.in-235.is begins

pub returns-in_ok-far_target-in-233 : goal.returns-in_ok-far_target-in-233
returns-in_ok-far_target-in-233 c form begins =
    ap (λ target. Some (Jmp32 target)) c.in_ok-far_target-in-233.ensures.1
    ∙ named_first c.in_ok-first.ensures.value c.in-233.is begins

pub returns-in_ok-far_target-in-232 : goal.returns-in_ok-far_target-in-232
returns-in_ok-far_target-in-232 c form begins =
    ap (λ target. Some (Call target)) c.in_ok-far_target-in-232.ensures.1
    ∙ named_first c.in_ok-first.ensures.value c.in-232.is begins

pub returns-in_err-near_target-in-235 : goal.returns-in_err-near_target-in-235
returns-in_err-near_target-in-235 c form begins =
    absurd (c.in_err-near_target-in-235.ensures
    (named_fits {named_by = Jmp8 (near c.args.at c.args.bytes.now)} c.in_ok-first.ensures.value c.in-235.is refl begins))

pub returns-in_err-far_target-in-233 : goal.returns-in_err-far_target-in-233
returns-in_err-far_target-in-233 c form begins =
    absurd (c.in_err-far_target-in-233.ensures
    (named_fits {named_by = Jmp32 (far c.args.at c.args.bytes.now)} c.in_ok-first.ensures.value c.in-233.is refl begins))

pub returns-in_err-far_target-in-232 : goal.returns-in_err-far_target-in-232
returns-in_err-far_target-in-232 c form begins =
    absurd (c.in_err-far_target-in-232.ensures
    (named_fits {named_by = Call (far c.args.at c.args.bytes.now)} c.in_ok-first.ensures.value c.in-232.is refl begins))
