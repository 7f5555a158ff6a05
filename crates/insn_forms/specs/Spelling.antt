-- The bytes of the forms that a patched site may hold (Intel SDM volume 2: NOP, JMP, CALL and RET).
use Rattle.std.specs.Prelude.{◌≡◌, ℕ, ◌+◌, ◌%◌, ◌^◌, List, [], ◌∷◌, Option, Some, option_map}
use Rattle.std.specs.Int.{w8, w32}
use Rattle.poke_base.specs.Text.{IsPrefix}
use Rattle.insn_forms.specs.declared.forms.Form.{Form}
use Rattle.insn_forms.specs.declared.forms.Form.TheVariants.{Nop2, Nop5, Jmp8, Jmp32, Call, Ret}
use Rattle.insn_forms.specs.Displacement.{displacement}

-- how many bytes a form takes
abbrev pub size : Form → ℕ
size Nop2 = 2
size Nop5 = 5
size (Jmp8 target) = 2
size (Jmp32 target) = 5
size (Call target) = 5
size Ret = 5

-- the address after n bytes
abbrev pub after : ℕ → ℕ → ℕ
after at bytes = (at + bytes) % 2 ^ 64

-- the bytes of a form at an address; none where the displacement doesn't reach the target
unfoldable pub spell : Form → ℕ → Option (List ℕ)
spell Nop2 at = Some (0x66 ∷ 0x90 ∷ [])
spell Nop5 at = Some (0x0f ∷ 0x1f ∷ 0x44 ∷ 0x00 ∷ 0x00 ∷ [])
spell (Jmp8 target) at = option_map (λ rel8. 0xeb ∷ rel8) (displacement w8 (after at 2) target)
spell (Jmp32 target) at = option_map (λ rel32. 0xe9 ∷ rel32) (displacement w32 (after at 5) target)
spell (Call target) at = option_map (λ rel32. 0xe8 ∷ rel32) (displacement w32 (after at 5) target)
spell Ret at = Some (0xc3 ∷ 0xcc ∷ 0xcc ∷ 0xcc ∷ 0xcc ∷ [])

-- the bytes begin with the spelling of the form
pub record BeginsWith (form : Form) (at : ℕ) (bytes : List ℕ) : Type 0 where
  pub code : List ℕ
  pub spelt : spell form at ≡ Some code
  pub prefix : IsPrefix code bytes
