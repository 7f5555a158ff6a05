-- Worked examples of what the forms of patched sites do as whole instructions, and of their first instructions' bytes.
-- The processor stands at another address than the form, so that they tell which of the two counts.
use Rattle.std.specs.Prelude.{◌≡◌, ℕ, [], ◌∷◌, Some, None, replicate, slice_set, refl}
use Rattle.insn_forms.specs.declared.forms.Form.TheVariants.{Nop2, Nop5, Jmp8, Jmp32, Call, Ret}
use Rattle.x64_subset.specs.declared.proc.Proc.{Proc}
use Rattle.x64_subset.specs.declared.proc.Life.TheVariants.{Done, Fault}
use Rattle.x64_subset.specs.declared.proc.FaultKind.TheVariants.{Depth}
use Rattle.x64_subset.specs.declared.proc.Mark.TheVariants.{None as NoMark, Ended}
use Rattle.x64_subset.specs.Proc.{start}
use Rattle.insn_forms.specs.Spelling.{spell}
use Rattle.x64_subset.specs.Effect.{does}
use Rattle.x64_subset.specs.Whole.{name, whole}

-- the NOPs end after themselves
pub nop2_goes_on : whole Nop2 0x401000 (start 0x500000) ≡ (start 0x401002, NoMark)
unfolding whole does
nop2_goes_on = refl

pub nop5_goes_on : whole Nop5 0x401000 (start 0x500000) ≡ (start 0x401005, NoMark)
unfolding whole does
nop5_goes_on = refl

-- the jumps end at their targets
pub jmp8_leads : whole (Jmp8 0x401010) 0x401000 (start 0x500000) ≡ (start 0x401010, NoMark)
unfolding whole does
jmp8_leads = refl

pub jmp32_leads : whole (Jmp32 0x402000) 0x401000 (start 0x500000) ≡ (start 0x402000, NoMark)
unfolding whole does
jmp32_leads = refl

-- a processor with one return address
abbrev called : ℕ → Proc
called ip = record (start ip) { stack = slice_set (replicate 64 0) 0 0x401005; depth = 1 }

-- a call pushes the address after the form
pub call_pushes : whole (Call 0x402000) 0x401000 (start 0x500000) ≡ (called 0x402000, NoMark)
unfolding whole does
call_pushes = refl

-- with 64 return addresses it is a fault, and the processor stands where it stood
pub deep_call_stays :
    whole (Call 0x402000) 0x401000 (record (start 0x500000) { depth = 64 })
    ≡ (record (start 0x500000) { depth = 64; life = Fault Depth }, Ended)
unfolding whole does
deep_call_stays = refl

-- a return pops the last address, which stays in its place
pub ret_pops : whole Ret 0x402000 (called 0x500000) ≡ (record (called 0x401005) { depth = 0 }, NoMark)
unfolding whole does
ret_pops = refl

-- with none it is the end, and the processor stands where it stood
pub last_ret_stays : whole Ret 0x402000 (start 0x500000) ≡ (record (start 0x500000) { life = Done }, Ended)
unfolding whole does
last_ret_stays = refl

-- the first instruction of RET is one byte, and of the other forms it is all of them
pub name_of_nop2 : name Nop2 0x401000 ≡ Some (0x66 ∷ 0x90 ∷ [])
unfolding spell
name_of_nop2 = refl

pub name_of_nop5 : name Nop5 0x401000 ≡ Some (0x0f ∷ 0x1f ∷ 0x44 ∷ 0x00 ∷ 0x00 ∷ [])
unfolding spell
name_of_nop5 = refl

pub name_of_jmp8 : name (Jmp8 0x1081) 0x1000 ≡ Some (0xeb ∷ 0x7f ∷ [])
unfolding spell
name_of_jmp8 = refl

pub name_out_of_reach : name (Jmp8 0x1082) 0x1000 ≡ None
unfolding spell
name_out_of_reach = refl

pub name_of_jmp32 : name (Jmp32 0x402000) 0x401000 ≡ Some (0xe9 ∷ 0xfb ∷ 0x0f ∷ 0x00 ∷ 0x00 ∷ [])
unfolding spell
name_of_jmp32 = refl

pub name_of_call : name (Call 0x401000) 0x402000 ≡ Some (0xe8 ∷ 0xfb ∷ 0xef ∷ 0xff ∷ 0xff ∷ [])
unfolding spell
name_of_call = refl

pub name_of_ret : name Ret 0x401000 ≡ Some (0xc3 ∷ [])
name_of_ret = refl
