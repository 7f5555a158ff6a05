-- Worked examples of what is read of bytes.
use Rattle.std.specs.Prelude.{◌≡◌, [], ◌∷◌, Ok, Err, refl}
use Rattle.x64_subset.specs.declared.insn.AluOp.TheVariants.{Add, Cmp}
use Rattle.x64_subset.specs.declared.insn.Insn.TheVariants.{Nop, Jmp8, Call, Ret, Jcc8, Jcc32, Alu, AluImm, MovImm, Dec}
use Rattle.x64_subset.specs.declared.insn.Undecoded.TheVariants.{Short, Unknown}
use Rattle.x64_subset.specs.Reading.{read}

-- what follows an instruction isn't looked at
pub reads_ret : read 0x401000 (0xc3 ∷ 0xcc ∷ []) ≡ Ok (Ret, 1)
unfolding read
reads_ret = refl

-- a displacement counts from the end of the instruction
pub reads_short_jump : read 0x401000 (0xeb ∷ 0x05 ∷ []) ≡ Ok (Jmp8 0x401007, 2)
unfolding read
reads_short_jump = refl

pub reads_call_backward : read 0x402000 (0xe8 ∷ 0xfb ∷ 0xef ∷ 0xff ∷ 0xff ∷ []) ≡ Ok (Call 0x401000, 5)
unfolding read
reads_call_backward = refl

-- addresses wrap
pub reads_jump_over_the_end : read 0xffff_ffff_ffff_fffe (0xeb ∷ 0x00 ∷ []) ≡ Ok (Jmp8 0, 2)
unfolding read
reads_jump_over_the_end = refl

-- JG backward, and a long JE
pub reads_short_condition : read 0x1000 (0x7f ∷ 0x80 ∷ []) ≡ Ok (Jcc8 15 0xf82, 2)
unfolding read
reads_short_condition = refl

pub reads_long_condition :
    read 0x401000 (0x0f ∷ 0x84 ∷ 0x00 ∷ 0x01 ∷ 0x00 ∷ 0x00 ∷ []) ≡ Ok (Jcc32 4 0x401106, 6)
unfolding read
reads_long_condition = refl

-- ADD EAX, EBX: the destination is the second register of ModRM
pub reads_add : read 0 (0x01 ∷ 0xd8 ∷ []) ≡ Ok (Alu Add 0 3, 2)
unfolding read
reads_add = refl

pub reads_cmp_byte : read 0 (0x83 ∷ 0xff ∷ 0xff ∷ []) ≡ Ok (AluImm Cmp 7 0xff, 3)
unfolding read
reads_cmp_byte = refl

pub reads_dec : read 0 (0xff ∷ 0xcd ∷ []) ≡ Ok (Dec 5, 2)
unfolding read
reads_dec = refl

-- a number's lowest byte comes first
pub reads_mov : read 0 (0xb8 ∷ 0x78 ∷ 0x56 ∷ 0x34 ∷ 0x12 ∷ []) ≡ Ok (MovImm 0 0x1234_5678, 5)
unfolding read
reads_mov = refl

pub reads_longest_nop :
    read 0 (0x66 ∷ 0x0f ∷ 0x1f ∷ 0x84 ∷ 0x00 ∷ 0x00 ∷ 0x00 ∷ 0x00 ∷ 0x00 ∷ []) ≡ Ok (Nop 9, 9)
unfolding read
reads_longest_nop = refl

-- bytes that end too early
pub none_is_short : read 0 [] ≡ Err Short
unfolding read
none_is_short = refl

pub cut_nop_is_short : read 0 (0x0f ∷ 0x1f ∷ 0x84 ∷ 0x00 ∷ []) ≡ Err Short
unfolding read
cut_nop_is_short = refl

-- the stack pointer and the conditions of parity are excluded
pub stack_pointer_is_unknown : read 0 (0xff ∷ 0xc4 ∷ []) ≡ Err Unknown
unfolding read
stack_pointer_is_unknown = refl

pub parity_is_unknown : read 0 (0x7a ∷ 0x00 ∷ []) ≡ Err Unknown
unfolding read
parity_is_unknown = refl

pub no_parity_is_unknown : read 0 (0x0f ∷ 0x8b ∷ 0x00 ∷ 0x00 ∷ 0x00 ∷ 0x00 ∷ []) ≡ Err Unknown
unfolding read
no_parity_is_unknown = refl

-- an operand in memory is none
pub memory_is_unknown : read 0 (0x01 ∷ 0x00 ∷ []) ≡ Err Unknown
unfolding read
memory_is_unknown = refl
