-- Which instructions of the subset have no spelling at an address: jumps and calls whose target is out of reach.
use Rattle.std.specs.Prelude.{ℕ, ◌<◌, ◌^◌, ⊤}
use Rattle.std.specs.Int.{w8, w32}
use Rattle.insn_forms.specs.Displacement.{NoneLeads}
use Rattle.insn_forms.specs.Spelling.{after}
use Rattle.x64_subset.specs.declared.insn.Insn.{Insn}
use Rattle.x64_subset.specs.declared.insn.Insn.TheVariants.{Jmp8, Jmp32, Call, Jcc8, Jcc32, AluImm, MovImm, Out}

-- no displacement of the instruction's width leads from its end to its target
abbrev pub IsOutOfReach : Insn → ℕ → Type 0
IsOutOfReach (Jmp8 target) at = NoneLeads w8 (after at 2) target
IsOutOfReach (Jmp32 target) at = NoneLeads w32 (after at 5) target
IsOutOfReach (Call target) at = NoneLeads w32 (after at 5) target
IsOutOfReach (Jcc8 condition target) at = NoneLeads w8 (after at 2) target
IsOutOfReach (Jcc32 condition target) at = NoneLeads w32 (after at 6) target
IsOutOfReach other at = ⊥

-- the numbers of an instruction have room in its fields, of a byte or of four, as those of each value have
abbrev pub HasRoom : Insn → Type 0
HasRoom (AluImm op rm byte) = byte < 256
HasRoom (MovImm r number) = number < 2 ^ 32
HasRoom (Out port) = port < 256
HasRoom other = ⊤
