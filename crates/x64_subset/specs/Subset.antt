-- Which instructions there are: their operands' ranges.
use Rattle.std.specs.Prelude.{◌==◌, ◌&&◌, ◌||◌, ℕ, Bool, true, not, nat_lt, nat_le, Option, Some, None}
use Rattle.std.specs.Option.{is_some}
use Rattle.x64_subset.specs.declared.insn.AluOp.{AluOp}
use Rattle.x64_subset.specs.declared.insn.AluOp.TheVariants.{Add, Sub, Xor, Cmp, Test, Mov}
use Rattle.x64_subset.specs.declared.insn.Insn.{Insn}
use Rattle.x64_subset.specs.declared.insn.Insn.TheVariants.{Nop, Int3, Jmp8, Jmp32, Call, Ret, Jcc8, Jcc32, Alu, AluImm, Inc, Dec, MovImm, Hlt, Ud2, Out, Endbr64, Serialize}

-- the stack pointer ESP, which is excluded: the call stack of the processors stands apart from their data
abbrev pub is_stack_pointer : ℕ → Bool
is_stack_pointer r = r == 4

-- a register that an instruction may name: one of the eight, but the stack pointer
abbrev pub is_register : ℕ → Bool
is_register r = nat_lt r 8 && not (is_stack_pointer r)

-- the conditions of parity, P (A in hexadecimal) and NP (B), which are excluded: the processors have no parity flag
abbrev pub is_parity : ℕ → Bool
is_parity condition = condition == 10 || condition == 11

-- a condition that a jump may have: one of the sixteen, but those of parity
abbrev pub is_condition : ℕ → Bool
is_condition condition = nat_lt condition 16 && not (is_parity condition)

-- the digit that stands for an operation with a byte, in the register's place of ModRM
abbrev pub digit_of : AluOp → Option ℕ
digit_of Add = Some 0
digit_of Sub = Some 5
digit_of Cmp = Some 7
digit_of Xor = None
digit_of Test = None
digit_of Mov = None

-- the instruction is one of the subset
abbrev pub is_listed : Insn → Bool
is_listed (Nop len) = nat_lt 0 len && nat_le len 9
is_listed Int3 = true
is_listed (Jmp8 target) = true
is_listed (Jmp32 target) = true
is_listed (Call target) = true
is_listed Ret = true
is_listed (Jcc8 condition target) = is_condition condition
is_listed (Jcc32 condition target) = is_condition condition
is_listed (Alu op rm reg) = is_register rm && is_register reg
is_listed (AluImm op rm byte) = is_some (digit_of op) && is_register rm
is_listed (Inc rm) = is_register rm
is_listed (Dec rm) = is_register rm
is_listed (MovImm r number) = is_register r
is_listed Hlt = true
is_listed Ud2 = true
is_listed (Out port) = true
is_listed Endbr64 = true
is_listed Serialize = true
