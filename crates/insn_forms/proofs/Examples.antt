-- Worked examples of spellings, and of what the bytes of a text have been.
use Rattle.std.specs.Prelude.{◌≡◌, List, [], ◌∷◌, Some, None, refl}
use Rattle.insn_forms.specs.declared.forms.Form.TheVariants.{Jmp8, Jmp32, Call}
use Rattle.insn_forms.specs.History.{Memory, text_byte, text_memory, since}
use Rattle.insn_forms.specs.Spelling.{spell}
use Rattle.insn_forms.specs.Write.{Write}

-- a long jump forward
pub long_jump : spell (Jmp32 0x402000) 0x401000 ≡ Some (0xe9 ∷ 0xfb ∷ 0x0f ∷ 0x00 ∷ 0x00 ∷ [])
unfolding spell
long_jump = refl

-- a call backward
pub call_backward : spell (Call 0x401000) 0x402000 ≡ Some (0xe8 ∷ 0xfb ∷ 0xef ∷ 0xff ∷ 0xff ∷ [])
unfolding spell
call_backward = refl

-- the farthest short jump forward
pub farthest_forward : spell (Jmp8 0x1081) 0x1000 ≡ Some (0xeb ∷ 0x7f ∷ [])
unfolding spell
farthest_forward = refl

-- one byte more is too far forward for a short jump
pub too_far_forward : spell (Jmp8 0x1082) 0x1000 ≡ None
unfolding spell
too_far_forward = refl

-- the farthest short jump backward
pub farthest_backward : spell (Jmp8 0xf82) 0x1000 ≡ Some (0xeb ∷ 0x80 ∷ [])
unfolding spell
farthest_backward = refl

-- one byte more is too far backward for a short jump
pub too_far_backward : spell (Jmp8 0xf81) 0x1000 ≡ None
unfolding spell
too_far_backward = refl

-- a text of two bytes, 0F 1F, and two writes of its first byte
abbrev short_text : Memory
short_text = text_memory 16 (0x0f ∷ 0x1f ∷ [])

abbrev two_writes : List Write
two_writes = record { at = 16; byte = 0xcc } ∷ record { at = 16; byte = 0xe9 } ∷ []

-- all values that the byte had, those since the first write, and the last one
pub since_start : since short_text two_writes 0 16 ≡ 0x0f ∷ 0xcc ∷ 0xe9 ∷ []
since_start = refl

pub since_first_write : since short_text two_writes 1 16 ≡ 0xcc ∷ 0xe9 ∷ []
since_first_write = refl

pub since_last_write : since short_text two_writes 2 16 ≡ 0xe9 ∷ []
since_last_write = refl

-- a byte that isn't written has one value
pub unwritten_since_start : since short_text two_writes 0 17 ≡ 0x1f ∷ []
unwritten_since_start = refl

pub unwritten_since_first_write : since short_text two_writes 1 17 ≡ 0x1f ∷ []
unwritten_since_first_write = refl

pub unwritten_since_last_write : since short_text two_writes 2 17 ≡ 0x1f ∷ []
unwritten_since_last_write = refl

-- a value that comes back is listed once
pub value_comes_back :
    since short_text (record { at = 16; byte = 0xcc } ∷ record { at = 16; byte = 0x0f } ∷ []) 0 16 ≡ 0x0f ∷ 0xcc ∷ []
value_comes_back = refl

-- outside of a text there is no byte
pub before_text : text_byte 16 (0x0f ∷ 0x1f ∷ []) 15 ≡ None
before_text = refl

pub after_text : text_byte 16 (0x0f ∷ 0x1f ∷ []) 18 ≡ None
after_text = refl
