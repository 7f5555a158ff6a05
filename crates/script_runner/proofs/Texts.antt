-- The texts of the lines that an event shows.
use Rattle.std.proofs.Common.{◌≡◌, ℕ, List, [], ◌∷◌, ◌++◌, refl, ap, append-nil}
use Rattle.cpu_core.specs.Lines.{mark_line, out_line, pass_line, stop_line}
use Rattle.switching.specs.Said.{TraceLine, Passes, Stops, said_mark}
use Rattle.x64_subset.specs.declared.insn.Insn.{Insn}
use Rattle.x64_subset.specs.declared.proc.Life.{Life}
use Rattle.x64_subset.specs.declared.proc.Mark.{Mark}
use Rattle.x64_subset.specs.declared.proc.Mark.TheVariants.{None as NoMark, Out, Ended}
use Rattle.script_runner.specs.TraceText.{line_text, trace_text}

-- one line
pub one_line : (l : TraceLine) → trace_text (l ∷ []) ≡ line_text l
one_line l = append-nil (line_text l)

pub stop_text : (c : ℕ) (life : Life) → trace_text (Stops c life ∷ []) ≡ stop_line c life
stop_text c life = append-nil (stop_line c life)

-- what an instruction shows
pub mark_text : (c : ℕ) (life : Life) (mark : Mark) → trace_text (said_mark c life mark) ≡ mark_line c mark life
mark_text c life NoMark = refl
mark_text c life (Out port value) = append-nil (out_line c port value)
mark_text c life Ended = append-nil (stop_line c life)

pub pass_text : (c at : ℕ) (insn : Insn) (life : Life) (mark : Mark) → trace_text (Passes c at insn ∷ said_mark c life mark) ≡ pass_line c at insn ++ mark_line c mark life
pass_text c at insn life mark = ap (λ (t : List ℕ). pass_line c at insn ++ t) (mark_text c life mark)
