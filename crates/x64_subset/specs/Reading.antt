-- The instruction that bytes begin with, read from the front: one byte after the other decides what may follow.
use Rattle.std.specs.Prelude.{◌==◌, ◌&&◌, ℕ, ◌-◌, ◌/◌, ◌%◌, nat_le, nat_lt, if◌then◌else◌, List, [], ◌∷◌, Result, Ok, Err}
use Rattle.std.specs.Int.{w8, w32, from_le_bytes}
use Rattle.insn_forms.specs.Displacement.{leads}
use Rattle.insn_forms.specs.Spelling.{after}
use Rattle.x64_subset.specs.declared.insn.AluOp.{AluOp}
use Rattle.x64_subset.specs.declared.insn.AluOp.TheVariants.{Add, Sub, Xor, Cmp, Test, Mov}
use Rattle.x64_subset.specs.declared.insn.Insn.{Insn}
use Rattle.x64_subset.specs.declared.insn.Insn.TheVariants.{Nop, Int3, Jmp8, Jmp32, Call, Ret, Jcc8, Jcc32, Alu, AluImm, Inc, Dec, MovImm, Hlt, Ud2, Out, Endbr64, Serialize}
use Rattle.x64_subset.specs.declared.insn.Undecoded.{Undecoded}
use Rattle.x64_subset.specs.declared.insn.Undecoded.TheVariants.{Short, Unknown}
use Rattle.x64_subset.specs.Subset.{is_register, is_condition}

-- an instruction and its length, or why there is none
abbrev pub Answer : Type 0
Answer = Result (Insn × ℕ) Undecoded

-- what is read of the bytes that follow
abbrev pub Reading : Type 0
Reading = List ℕ → Answer

-- the instruction, n bytes long, ends here
abbrev pub complete : Insn → ℕ → Reading
complete insn len rest = Ok (insn, len)

-- nothing begins so
abbrev pub unknown : Reading
unknown rest = Err Unknown

-- one more byte decides
abbrev pub byte : (ℕ → Reading) → Reading
byte next [] = Err Short
byte next (b ∷ rest) = next b rest

-- these bytes have to follow
abbrev pub expect : List ℕ → Reading → Reading
expect [] next rest = next rest
expect (c ∷ code) next [] = Err Short
expect (c ∷ code) next (b ∷ rest) = if b == c then expect code next rest else Err Unknown

-- four bytes follow
abbrev pub four : (List ℕ → Reading) → Reading
four next = byte (λ a. byte (λ b. byte (λ c. byte (λ d. next (a ∷ b ∷ c ∷ d ∷ [])))))

-- a displacement of one byte and of four, which end an instruction of n bytes
abbrev pub near : ℕ → ℕ → (ℕ → Insn) → Reading
near at len insn = byte (λ rel8. complete (insn (leads w8 (after at len) (rel8 ∷ []))) len)

abbrev pub far : ℕ → ℕ → (ℕ → Insn) → Reading
far at len insn = four (λ rel32. complete (insn (leads w32 (after at len) rel32)) len)

-- a byte that names two registers, or a digit and a register
abbrev pub by_mod_rm : (ℕ → ℕ → Reading) → Reading
by_mod_rm next =
    byte (λ b. if nat_le 0xc0 b && is_register (b % 8) then next ((b - 0xc0) / 8) (b % 8) else unknown)

-- two registers, of which the destination is the second
abbrev pub two_registers : AluOp → ℕ → ℕ → Reading
two_registers op reg rm = if is_register reg then complete (Alu op rm reg) 2 else unknown

abbrev pub alu : AluOp → Reading
alu op = by_mod_rm (two_registers op)

-- a register and a byte, by the operation's digit
abbrev pub with_byte : AluOp → ℕ → Reading
with_byte op rm = byte (λ number. complete (AluImm op rm number) 3)

abbrev pub by_digit : ℕ → ℕ → Reading
by_digit digit rm =
    if digit == 0 then with_byte Add rm
    else if digit == 5 then with_byte Sub rm
    else if digit == 7 then with_byte Cmp rm
    else unknown

abbrev pub alu_imm : Reading
alu_imm = by_mod_rm by_digit

-- one register, by the operation's digit
abbrev pub one_register : ℕ → ℕ → Reading
one_register digit rm =
    if digit == 0 then complete (Inc rm) 2
    else if digit == 1 then complete (Dec rm) 2
    else unknown

abbrev pub inc_or_dec : Reading
inc_or_dec = by_mod_rm one_register

-- a number of four bytes into a register
abbrev pub mov_imm : ℕ → Reading
mov_imm r = if is_register r then four (λ id. complete (MovImm r (from_le_bytes w32 id)) 5) else unknown

-- a jump on a condition
abbrev pub jcc8 : ℕ → ℕ → Reading
jcc8 at condition = if is_condition condition then near at 2 (Jcc8 condition) else unknown

abbrev pub jcc32 : ℕ → ℕ → Reading
jcc32 at condition = if is_condition condition then far at 6 (Jcc32 condition) else unknown

-- after 66 0F 1F
abbrev pub prefixed_nop : ℕ → Reading
prefixed_nop b =
    if b == 0x44 then expect (0x00 ∷ 0x00 ∷ []) (complete (Nop 6) 6)
    else if b == 0x84 then expect (0x00 ∷ 0x00 ∷ 0x00 ∷ 0x00 ∷ 0x00 ∷ []) (complete (Nop 9) 9)
    else unknown

-- after 66
abbrev pub prefixed : ℕ → Reading
prefixed b =
    if b == 0x90 then complete (Nop 2) 2
    else if b == 0x0f then expect (0x1f ∷ []) (byte prefixed_nop)
    else unknown

-- after 0F 1F
abbrev pub long_nop : ℕ → Reading
long_nop b =
    if b == 0x00 then complete (Nop 3) 3
    else if b == 0x40 then expect (0x00 ∷ []) (complete (Nop 4) 4)
    else if b == 0x44 then expect (0x00 ∷ 0x00 ∷ []) (complete (Nop 5) 5)
    else if b == 0x80 then expect (0x00 ∷ 0x00 ∷ 0x00 ∷ 0x00 ∷ []) (complete (Nop 7) 7)
    else if b == 0x84 then expect (0x00 ∷ 0x00 ∷ 0x00 ∷ 0x00 ∷ 0x00 ∷ []) (complete (Nop 8) 8)
    else unknown

-- after 0F
abbrev pub escaped : ℕ → ℕ → Reading
escaped at b =
    if b == 0x01 then expect (0xe8 ∷ []) (complete Serialize 3)
    else if b == 0x0b then complete Ud2 2
    else if b == 0x1f then byte long_nop
    else if nat_le 0x80 b && nat_lt b 0x90 then jcc32 at (b - 0x80)
    else unknown

-- the instruction by its first byte
abbrev pub first : ℕ → ℕ → Reading
first at b =
    if b == 0x01 then alu Add
    else if b == 0x0f then byte (escaped at)
    else if b == 0x29 then alu Sub
    else if b == 0x31 then alu Xor
    else if b == 0x39 then alu Cmp
    else if b == 0x66 then byte prefixed
    else if nat_le 0x70 b && nat_lt b 0x80 then jcc8 at (b - 0x70)
    else if b == 0x83 then alu_imm
    else if b == 0x85 then alu Test
    else if b == 0x89 then alu Mov
    else if b == 0x90 then complete (Nop 1) 1
    else if nat_le 0xb8 b && nat_lt b 0xc0 then mov_imm (b - 0xb8)
    else if b == 0xc3 then complete Ret 1
    else if b == 0xcc then complete Int3 1
    else if b == 0xe6 then byte (λ port. complete (Out port) 2)
    else if b == 0xe8 then far at 5 Call
    else if b == 0xe9 then far at 5 Jmp32
    else if b == 0xeb then near at 2 Jmp8
    else if b == 0xf3 then expect (0x0f ∷ 0x1e ∷ 0xfa ∷ []) (complete Endbr64 4)
    else if b == 0xf4 then complete Hlt 1
    else if b == 0xff then inc_or_dec
    else unknown

-- the instruction at an address, of which these are the bytes
unfoldable pub read : ℕ → List ℕ → Answer
read at = byte (first at)
