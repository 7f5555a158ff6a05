-- Worked examples of effects.
use Rattle.std.specs.Prelude.{◌≡◌, ℕ, true, replicate, slice_set, refl}
use Rattle.x64_subset.specs.declared.insn.AluOp.TheVariants.{Sub}
use Rattle.x64_subset.specs.declared.insn.Insn.TheVariants.{AluImm, Dec, Call, Ret, Jcc8, Out as OutTo}
use Rattle.x64_subset.specs.declared.proc.Proc.{Proc}
use Rattle.x64_subset.specs.declared.proc.Life.TheVariants.{Done, Fault}
use Rattle.x64_subset.specs.declared.proc.FaultKind.TheVariants.{Depth}
use Rattle.x64_subset.specs.declared.proc.Mark.TheVariants.{None as NoMark, Out, Ended}
use Rattle.x64_subset.specs.Proc.{start}
use Rattle.x64_subset.specs.Effect.{does, stored}

-- a processor with a number in EAX
abbrev with_eax : ℕ → Proc
with_eax number = stored 0 number (start 0x401000)

-- SUB EAX, 1 at 0 borrows: carry and sign
pub sub_below_zero :
    does (AluImm Sub 0 1) 3 (with_eax 0)
    ≡ (record (with_eax 0xffff_ffff) { carry = true; sign = true; ip = 0x401003 }, NoMark)
unfolding does
sub_below_zero = refl

-- DEC EAX at the least signed number overflows, and leaves carry as it is
pub dec_overflows :
    does (Dec 0) 2 (with_eax 0x8000_0000)
    ≡ (record (with_eax 0x7fff_ffff) { overflow = true; ip = 0x401002 }, NoMark)
unfolding does
dec_overflows = refl

pub dec_keeps_carry :
    does (Dec 0) 2 (record (with_eax 0x8000_0000) { carry = true })
    ≡ (record (with_eax 0x7fff_ffff) { carry = true; overflow = true; ip = 0x401002 }, NoMark)
unfolding does
dec_keeps_carry = refl

-- JL is taken where sign and overflow differ
pub less_is_sign_or_overflow :
    does (Jcc8 12 0x402000) 2 (record (with_eax 0) { sign = true; overflow = true })
    ≡ (record (with_eax 0) { sign = true; overflow = true; ip = 0x401002 }, NoMark)
unfolding does
less_is_sign_or_overflow = refl

-- a call pushes the next address; one with 64 return addresses is a fault
pub call_pushes_next :
    does (Call 0x402000) 5 (record (start 0x401000) { depth = 63 })
    ≡ (record (start 0x402000) { stack = slice_set (replicate 64 0) 63 0x401005; depth = 64 }, NoMark)
unfolding does
call_pushes_next = refl

pub call_too_deep :
    does (Call 0x402000) 5 (record (start 0x401000) { depth = 64 })
    ≡ (record (start 0x401000) { depth = 64; life = Fault Depth }, Ended)
unfolding does
call_too_deep = refl

-- a return with no return address is the end
pub ret_at_zero : does Ret 1 (start 0x401000) ≡ (record (start 0x401000) { life = Done }, Ended)
unfolding does
ret_at_zero = refl

-- OUT shows the low byte of EAX
pub out_shows_al :
    does (OutTo 0xe9) 2 (with_eax 0x1234_5648)
    ≡ (record (with_eax 0x1234_5648) { ip = 0x401002 }, Out 0xe9 0x48)
unfolding does
out_shows_al = refl
