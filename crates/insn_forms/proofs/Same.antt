-- The test of two forms says whether they are equal.
use Rattle.std.proofs.Common.{◌≡◌, true, refl, sym, ap, true≢false}
use Rattle.std.proofs.lemmas.Bool.{eqb-true, eq-eqb}
use Rattle.insn_forms.specs.declared.forms.Form.{Form}
use Rattle.insn_forms.specs.declared.forms.Form.TheVariants.{Nop2, Nop5, Jmp8, Jmp32, Call, Ret}
use Rattle.insn_forms.specs.Same.{same_form}

pub same_refl : (f : Form) → same_form f f ≡ true
same_refl Nop2 = refl
same_refl Nop5 = refl
same_refl (Jmp8 t) = eq-eqb t t refl
same_refl (Jmp32 t) = eq-eqb t t refl
same_refl (Call t) = eq-eqb t t refl
same_refl Ret = refl

pub same_true : (f g : Form) → same_form f g ≡ true → f ≡ g
same_true Nop2 Nop2 is = refl
same_true Nop5 Nop5 is = refl
same_true (Jmp8 t) (Jmp8 u) is = ap Jmp8 (eqb-true t u is)
same_true (Jmp32 t) (Jmp32 u) is = ap Jmp32 (eqb-true t u is)
same_true (Call t) (Call u) is = ap Call (eqb-true t u is)
same_true Ret Ret is = refl
same_true f g is = absurd (true≢false (sym is))
