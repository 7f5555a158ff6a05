-- What the instructions do (Intel SDM volume 2, "Operation" and "Flags Affected" of each; appendix B.1.4.7 for
-- the conditions). Results are 32 bits; overflow is that of the signed result.
use Rattle.std.specs.Prelude.{◌==◌, ◌||◌, ℕ, ◌+◌, ◌-◌, ◌/◌, ◌%◌, ◌^◌, nat_lt, nat_le, Bool, false, not, if◌then◌else◌, slice_index, slice_set, ℤ, pos, negsuc, ◌+ℤ◌, ◌-ℤ◌, int_lt, bit_and, bit_xor}
use Rattle.std.specs.Int.{w32, cast_signed}
use Rattle.insn_forms.specs.Spelling.{after}
use Rattle.x64_subset.specs.declared.insn.AluOp.{AluOp}
use Rattle.x64_subset.specs.declared.insn.AluOp.TheVariants.{Add, Sub, Xor, Cmp, Test, Mov}
use Rattle.x64_subset.specs.declared.insn.Insn.{Insn}
use Rattle.x64_subset.specs.declared.insn.Insn.TheVariants.{Nop, Int3, Jmp8, Jmp32, Call, Ret, Jcc8, Jcc32, Alu, AluImm, Inc, Dec, MovImm, Hlt, Ud2, Out as OutTo, Endbr64, Serialize}
use Rattle.x64_subset.specs.declared.arithmetic.Computed.{Computed}
use Rattle.x64_subset.specs.declared.proc.Proc.{Proc}
use Rattle.x64_subset.specs.declared.proc.Life.{Life}
use Rattle.x64_subset.specs.declared.proc.Life.TheVariants.{Done, Halted, Fault}
use Rattle.x64_subset.specs.declared.proc.FaultKind.TheVariants.{Undefined, Breakpoint, Depth}
use Rattle.x64_subset.specs.declared.proc.Mark.{Mark}
use Rattle.x64_subset.specs.declared.proc.Mark.TheVariants.{None as NoMark, Out, Ended}

-- a number of 32 bits with a sign
abbrev pub signed : ℕ → ℤ
signed n = cast_signed w32 n

-- a signed result that has no room in 32 bits
abbrev pub overflows : ℤ → Bool
overflows z = int_lt z (negsuc (2 ^ 31 - 1)) || int_lt (pos (2 ^ 31 - 1)) z

-- sum and difference modulo 2 ^ 32; carry is that out of bit 31, or a borrow
abbrev pub sum : ℕ → ℕ → Computed
sum a b =
    record { value = (a + b) % 2 ^ 32; carry = nat_le (2 ^ 32) (a + b); overflow = overflows (signed a +ℤ signed b) }

abbrev pub difference : ℕ → ℕ → Computed
difference a b =
    record { value = (a + 2 ^ 32 - b) % 2 ^ 32; carry = nat_lt a b; overflow = overflows (signed a -ℤ signed b) }

-- a result of bits alone
abbrev pub bits : ℕ → Computed
bits value = record { value = value; carry = false; overflow = false }

-- the flags that a result sets
abbrev pub flagged : Computed → Proc → Proc
flagged computed p =
    record p {
      carry = computed.carry;
      zero = computed.value == 0;
      sign = nat_le (2 ^ 31) computed.value;
      overflow = computed.overflow;
    }

abbrev pub register : ℕ → Proc → ℕ
register r p = slice_index p.regs r

abbrev pub stored : ℕ → ℕ → Proc → Proc
stored r value p = record p { regs = slice_set p.regs r value }

-- the result is stored, and sets the flags
abbrev pub worked : ℕ → Computed → Proc → Proc
worked r computed p = flagged computed (stored r computed.value p)

-- what an operation does to its destination, given the source
abbrev pub operated : AluOp → ℕ → ℕ → Proc → Proc
operated Add rm source p = worked rm (sum (register rm p) source) p
operated Sub rm source p = worked rm (difference (register rm p) source) p
operated Xor rm source p = worked rm (bits (bit_xor (register rm p) source)) p
operated Cmp rm source p = flagged (difference (register rm p) source) p
operated Test rm source p = flagged (bits (bit_and (register rm p) source)) p
operated Mov rm source p = stored rm source p

-- a byte, read as two's complement, in 32 bits
abbrev pub extended : ℕ → ℕ
extended byte = if nat_lt byte 0x80 then byte else byte + (2 ^ 32 - 2 ^ 8)

-- INC and DEC leave carry as it is
abbrev pub stepped : ℕ → Computed → Proc → Proc
stepped rm computed p = record (worked rm computed p) { carry = p.carry }

-- sign differs from overflow: of two numbers with a sign that were compared, the first is less
abbrev pub is_less : Proc → Bool
is_less p = if p.overflow then not p.sign else p.sign

-- the condition of an even number, by its half; the lowest bit of the number is a negation. Parity, half 5, is excluded:
-- no jump asks for it, and what stands here for it means nothing
abbrev pub is_met : ℕ → Proc → Bool
is_met half p =
    if half == 0 then p.overflow
    else if half == 1 then p.carry
    else if half == 2 then p.zero
    else if half == 3 then p.carry || p.zero
    else if half == 4 then p.sign
    else if half == 6 then is_less p
    else if half == 7 then p.zero || is_less p
    else false

abbrev pub holds : ℕ → Proc → Bool
holds condition p = if condition % 2 == 0 then is_met (condition / 2) p else not (is_met (condition / 2) p)

-- the processor at an address, and after an instruction of n bytes
abbrev pub at_ip : ℕ → Proc → Proc
at_ip ip p = record p { ip = ip }

abbrev pub next : ℕ → Proc → ℕ
next len p = after p.ip len

-- the processor goes on after the instruction and shows nothing
abbrev pub goes_on : ℕ → Proc → Proc × Mark
goes_on len p = (at_ip (next len p) p, NoMark)

abbrev pub jumps : ℕ → Proc → Proc × Mark
jumps target p = (at_ip target p, NoMark)

-- the processor doesn't go on, and is else as before
abbrev pub ends : Life → Proc → Proc × Mark
ends life p = (record p { life = life }, Ended)

-- a call with 64 return addresses is a fault; else the next address is pushed
abbrev pub calls : ℕ → ℕ → Proc → Proc × Mark
calls target len p =
    if p.depth == 64 then ends (Fault Depth) p
    else (record p { stack = slice_set p.stack p.depth (next len p); depth = p.depth + 1; ip = target }, NoMark)

-- a return with no return address is the end; else the last one is popped
abbrev pub returns : Proc → Proc × Mark
returns p =
    if p.depth == 0 then ends Done p
    else (record p { depth = p.depth - 1; ip = slice_index p.stack (p.depth - 1) }, NoMark)

-- the processor after an instruction of n bytes, and what it shows
unfoldable pub does : Insn → ℕ → Proc → Proc × Mark
does (Nop size) len p = goes_on len p
does Int3 len p = ends (Fault Breakpoint) (at_ip (next len p) p)
does (Jmp8 target) len p = jumps target p
does (Jmp32 target) len p = jumps target p
does (Call target) len p = calls target len p
does Ret len p = returns p
does (Jcc8 condition target) len p = if holds condition p then jumps target p else goes_on len p
does (Jcc32 condition target) len p = if holds condition p then jumps target p else goes_on len p
does (Alu op rm reg) len p = goes_on len (operated op rm (register reg p) p)
does (AluImm op rm byte) len p = goes_on len (operated op rm (extended byte) p)
does (Inc rm) len p = goes_on len (stepped rm (sum (register rm p) 1) p)
does (Dec rm) len p = goes_on len (stepped rm (difference (register rm p) 1) p)
does (MovImm r number) len p = goes_on len (stored r number p)
does Hlt len p = ends Halted p
does Ud2 len p = ends (Fault Undefined) p
does (OutTo port) len p = (at_ip (next len p) p, Out port (register 0 p % 256))
does Endbr64 len p = goes_on len p
does Serialize len p = goes_on len p
