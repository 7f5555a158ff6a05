-- What the form of a patched site does as a whole instruction.
use Rattle.std.specs.Prelude.{ℕ, List, [], ◌∷◌, Option, Some}
use Rattle.insn_forms.specs.declared.forms.Form.{Form}
use Rattle.insn_forms.specs.declared.forms.Form.TheVariants.{Nop2, Nop5, Jmp8, Jmp32, Call, Ret}
use Rattle.insn_forms.specs.Spelling.{spell}
use Rattle.x64_subset.specs.declared.insn.Insn.{Insn}
use Rattle.x64_subset.specs.declared.insn.Insn.TheVariants.{Nop, Jmp8 as JmpNear, Jmp32 as JmpFar, Call as CallTo, Ret as Return}
use Rattle.x64_subset.specs.declared.proc.Proc.{Proc}
use Rattle.x64_subset.specs.declared.proc.Mark.{Mark}
use Rattle.x64_subset.specs.declared.proc.Mark.TheVariants.{None as NoMark, Out, Ended}
use Rattle.x64_subset.specs.Effect.{does, at_ip}

-- the bytes of a form's first instruction: its spelling, but of RET without the filling after it
abbrev pub name : Form → ℕ → Option (List ℕ)
name Nop2 at = spell Nop2 at
name Nop5 at = spell Nop5 at
name (Jmp8 target) at = spell (Jmp8 target) at
name (Jmp32 target) at = spell (Jmp32 target) at
name (Call target) at = spell (Call target) at
name Ret at = Some (0xc3 ∷ [])

-- the instruction that a form's name spells, and its length
abbrev pub insn_of : Form → Insn
insn_of Nop2 = Nop 2
insn_of Nop5 = Nop 5
insn_of (Jmp8 target) = JmpNear target
insn_of (Jmp32 target) = JmpFar target
insn_of (Call target) = CallTo target
insn_of Ret = Return

abbrev pub name_len : Form → ℕ
name_len Nop2 = 2
name_len Nop5 = 5
name_len (Jmp8 target) = 2
name_len (Jmp32 target) = 5
name_len (Call target) = 5
name_len Ret = 1

-- the processor stands where it stood, if it ended
abbrev pub stays : ℕ → Proc × Mark → Proc × Mark
stays ip (p, NoMark) = (p, NoMark)
stays ip (p, Out port value) = (p, Out port value)
stays ip (p, Ended) = (at_ip ip p, Ended)

-- the form at an address, done as one instruction, wherever the processor stands
unfoldable pub whole : Form → ℕ → Proc → Proc × Mark
whole form at p = stays p.ip (does (insn_of form) (name_len form) (at_ip at p))
