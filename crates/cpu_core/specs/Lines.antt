-- The lines of a processor: what it did at a patched site, what it put out, and how it ended.
use Rattle.std.specs.Prelude.{ℕ, List, [], ◌∷◌, ◌++◌, codes}
use Rattle.hex.specs.Hex.{encode_lower}
use Rattle.poke_base.specs.Number.{decimal, hexadecimal}
use Rattle.x64_subset.specs.declared.insn.Insn.{Insn}
use Rattle.x64_subset.specs.declared.insn.Insn.TheVariants.{Nop, Jmp8, Jmp32, Call, Ret}
use Rattle.x64_subset.specs.declared.proc.FaultKind.{FaultKind}
use Rattle.x64_subset.specs.declared.proc.FaultKind.TheVariants.{Undefined, Breakpoint, Depth}
use Rattle.x64_subset.specs.declared.proc.Life.{Life}
use Rattle.x64_subset.specs.declared.proc.Life.TheVariants.{Running, Done, Halted, Fault}
use Rattle.x64_subset.specs.declared.proc.Mark.{Mark}
use Rattle.x64_subset.specs.declared.proc.Mark.TheVariants.{None as NoMark, Out, Ended}

-- the form that an instruction is, if it is one, with the target of a jump or call
abbrev pub form_words : Insn → List ℕ
form_words (Nop size) = codes "nop"
form_words (Jmp8 target) = codes "jmp " ++ hexadecimal target
form_words (Jmp32 target) = codes "jmp " ++ hexadecimal target
form_words (Call target) = codes "call " ++ hexadecimal target
form_words Ret = codes "ret"
form_words _ = codes "other"

-- `C ADDR FORM`
abbrev pub pass_words : ℕ → ℕ → Insn → List ℕ
pass_words cpu at insn = decimal cpu ++ codes " " ++ hexadecimal at ++ codes " " ++ form_words insn

abbrev pub pass_line : ℕ → ℕ → Insn → List ℕ
pass_line cpu at insn = pass_words cpu at insn ++ 10 ∷ []

-- `C out PP VV`: the port and the value
abbrev pub out_line : ℕ → ℕ → ℕ → List ℕ
out_line cpu port value =
    decimal cpu ++ codes " out " ++ encode_lower (port ∷ []) ++ codes " " ++ encode_lower (value ∷ []) ++ 10 ∷ []

-- how a processor ended; no line while it runs
abbrev pub fault_words : FaultKind → List ℕ
fault_words Undefined = codes " fault undefined"
fault_words Breakpoint = codes " fault breakpoint"
fault_words Depth = codes " fault depth"

abbrev pub stop_line : ℕ → Life → List ℕ
stop_line cpu Running = []
stop_line cpu Done = decimal cpu ++ codes " done" ++ 10 ∷ []
stop_line cpu Halted = decimal cpu ++ codes " halt" ++ 10 ∷ []
stop_line cpu (Fault why) = decimal cpu ++ fault_words why ++ 10 ∷ []

-- what an instruction showed; after the end the line of how the processor ended
abbrev pub mark_line : ℕ → Mark → Life → List ℕ
mark_line cpu NoMark life = []
mark_line cpu (Out port value) life = out_line cpu port value
mark_line cpu Ended life = stop_line cpu life
