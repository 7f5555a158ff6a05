-- When two forms are the same, as a test.
use Rattle.std.specs.Prelude.{◌==◌, Bool, true, false}
use Rattle.insn_forms.specs.declared.forms.Form.{Form}
use Rattle.insn_forms.specs.declared.forms.Form.TheVariants.{Nop2, Nop5, Jmp8, Jmp32, Call, Ret}

-- whether two forms are the same, their targets too
abbrev pub same_form : Form → Form → Bool
same_form Nop2 Nop2 = true
same_form Nop5 Nop5 = true
same_form (Jmp8 t) (Jmp8 u) = t == u
same_form (Jmp32 t) (Jmp32 u) = t == u
same_form (Call t) (Call u) = t == u
same_form Ret Ret = true
same_form _ _ = false
