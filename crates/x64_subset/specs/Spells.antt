-- The bytes of the instructions (Intel SDM volume 2, the opcode page of each; section 2.1.3 for ModRM, whose mod
-- is 11 throughout).
use Rattle.std.specs.Prelude.{◌≡◌, ◌==◌, ◌<◌, ◌+◌, ◌*◌, ◌^◌, ℕ, true, if◌then◌else◌, List, [], ◌∷◌, ◌++◌, length, take, ◌≤◌, Option, Some, None}
use Rattle.std.specs.Int.{Width, w8, w32, byte_len, to_le_bytes}
use Rattle.poke_base.specs.Text.{IsPrefix}
use Rattle.insn_forms.specs.Displacement.{displacement}
use Rattle.insn_forms.specs.Spelling.{after}
use Rattle.x64_subset.specs.declared.insn.AluOp.{AluOp}
use Rattle.x64_subset.specs.declared.insn.AluOp.TheVariants.{Add, Sub, Xor, Cmp, Test, Mov}
use Rattle.x64_subset.specs.declared.insn.Insn.{Insn}
use Rattle.x64_subset.specs.declared.insn.Insn.TheVariants.{Nop, Int3, Jmp8, Jmp32, Call, Ret, Jcc8, Jcc32, Alu, AluImm, Inc, Dec, MovImm, Hlt, Ud2, Out, Endbr64, Serialize}
use Rattle.x64_subset.specs.Subset.{is_register, is_condition, digit_of}

-- the recommended NOPs, by their length (SDM volume 2, NOP, table 4-12)
abbrev pub nop_bytes : ℕ → Option (List ℕ)
nop_bytes len =
    if len == 1 then Some (0x90 ∷ [])
    else if len == 2 then Some (0x66 ∷ 0x90 ∷ [])
    else if len == 3 then Some (0x0f ∷ 0x1f ∷ 0x00 ∷ [])
    else if len == 4 then Some (0x0f ∷ 0x1f ∷ 0x40 ∷ 0x00 ∷ [])
    else if len == 5 then Some (0x0f ∷ 0x1f ∷ 0x44 ∷ 0x00 ∷ 0x00 ∷ [])
    else if len == 6 then Some (0x66 ∷ 0x0f ∷ 0x1f ∷ 0x44 ∷ 0x00 ∷ 0x00 ∷ [])
    else if len == 7 then Some (0x0f ∷ 0x1f ∷ 0x80 ∷ 0x00 ∷ 0x00 ∷ 0x00 ∷ 0x00 ∷ [])
    else if len == 8 then Some (0x0f ∷ 0x1f ∷ 0x84 ∷ 0x00 ∷ 0x00 ∷ 0x00 ∷ 0x00 ∷ 0x00 ∷ [])
    else if len == 9 then Some (0x66 ∷ 0x0f ∷ 0x1f ∷ 0x84 ∷ 0x00 ∷ 0x00 ∷ 0x00 ∷ 0x00 ∷ 0x00 ∷ [])
    else None

-- the opcode of an operation on two registers, of which the destination is rm ("/r")
abbrev pub alu_opcode : AluOp → ℕ
alu_opcode Add = 0x01
alu_opcode Sub = 0x29
alu_opcode Xor = 0x31
alu_opcode Cmp = 0x39
alu_opcode Test = 0x85
alu_opcode Mov = 0x89

-- a ModRM byte that names two registers, or a digit and a register
abbrev pub mod_rm : ℕ → ℕ → ℕ
mod_rm reg rm = 0xc0 + 8 * reg + rm

-- an opcode, and the displacement that leads to the target from the end of the instruction
abbrev pub Leads : Width → List ℕ → ℕ → ℕ → List ℕ → Type 0
Leads w opcode at target bytes =
    (rel : List ℕ) × (displacement w (after at (length opcode + byte_len w)) target ≡ Some rel) × (bytes ≡ opcode ++ rel)

-- the bytes are those of the instruction at the address
unfoldable pub Spells : Insn → ℕ → List ℕ → Type 0
Spells (Nop len) at bytes = nop_bytes len ≡ Some bytes
Spells Int3 at bytes = bytes ≡ 0xcc ∷ []
Spells (Jmp8 target) at bytes = Leads w8 (0xeb ∷ []) at target bytes
Spells (Jmp32 target) at bytes = Leads w32 (0xe9 ∷ []) at target bytes
Spells (Call target) at bytes = Leads w32 (0xe8 ∷ []) at target bytes
Spells Ret at bytes = bytes ≡ 0xc3 ∷ []
Spells (Jcc8 condition target) at bytes = (is_condition condition ≡ true) × Leads w8 ((0x70 + condition) ∷ []) at target bytes
Spells (Jcc32 condition target) at bytes = (is_condition condition ≡ true) × Leads w32 (0x0f ∷ (0x80 + condition) ∷ []) at target bytes
Spells (Alu op rm reg) at bytes =
    (is_register rm ≡ true) × (is_register reg ≡ true) × (bytes ≡ alu_opcode op ∷ mod_rm reg rm ∷ [])
Spells (AluImm op rm byte) at bytes =
    (digit : ℕ) × (digit_of op ≡ Some digit) × (is_register rm ≡ true) × (byte < 256) × (bytes ≡ 0x83 ∷ mod_rm digit rm ∷ byte ∷ [])
Spells (Inc rm) at bytes = (is_register rm ≡ true) × (bytes ≡ 0xff ∷ mod_rm 0 rm ∷ [])
Spells (Dec rm) at bytes = (is_register rm ≡ true) × (bytes ≡ 0xff ∷ mod_rm 1 rm ∷ [])
Spells (MovImm r number) at bytes =
    (is_register r ≡ true) × (number < 2 ^ 32) × (bytes ≡ (0xb8 + r) ∷ to_le_bytes w32 number)
Spells Hlt at bytes = bytes ≡ 0xf4 ∷ []
Spells Ud2 at bytes = bytes ≡ 0x0f ∷ 0x0b ∷ []
Spells (Out port) at bytes = (port < 256) × (bytes ≡ 0xe6 ∷ port ∷ [])
Spells Endbr64 at bytes = bytes ≡ 0xf3 ∷ 0x0f ∷ 0x1e ∷ 0xfa ∷ []
Spells Serialize at bytes = bytes ≡ 0x0f ∷ 0x01 ∷ 0xe8 ∷ []

-- the bytes begin with the spelling of the instruction, which is so long
pub record Stands (insn : Insn) (len at : ℕ) (bytes : List ℕ) : Type 0 where
  pub spelt : Spells insn at (take len bytes)
  pub inside : len ≤ length bytes

-- the bytes are how a longer spelling begins
pub record IsCut (at : ℕ) (bytes : List ℕ) : Type 0 where
  pub insn : Insn
  pub code : List ℕ
  pub spelt : Spells insn at code
  pub prefix : IsPrefix bytes code
  pub shorter : length bytes < length code

-- no spelling begins so, and none is how the bytes begin
pub record IsUnknown (at : ℕ) (bytes : List ℕ) : Type 0 where
  pub none : (insn : Insn) (len : ℕ) → Stands insn len at bytes → ⊥
  pub not_cut : IsCut at bytes → ⊥
