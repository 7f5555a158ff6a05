-- What lines that are no passes and no drops do to tracers: nothing.
use Rattle.std.proofs.Common.{◌≡◌, ◌∙◌, ℕ, if◌then◌else◌, List, [], ◌∷◌, ◌++◌, refl, ap, append-nil}
use Rattle.module_image.specs.Module.{Module}
use Rattle.switching.specs.Said.{Passes, said_mark}
use Rattle.x64_subset.specs.declared.insn.Insn.{Insn}
use Rattle.x64_subset.specs.declared.proc.Life.{Life}
use Rattle.x64_subset.specs.declared.proc.Mark.{Mark}
use Rattle.x64_subset.specs.declared.proc.Mark.TheVariants.{None as NoMark, Out, Ended}
use Rattle.script_runner.specs.Operations.{Operation, Hits, is_hit, operations}

pub mark_acts : (m : Module) (c : ℕ) (life : Life) (mark : Mark) → operations m (said_mark c life mark) ≡ []
mark_acts m c life NoMark = refl
mark_acts m c life (Out port value) = refl
mark_acts m c life Ended = refl

pub pass_acts : (m : Module) (c at : ℕ) (insn : Insn) (life : Life) (mark : Mark) → operations m (Passes c at insn ∷ said_mark c life mark) ≡ (if is_hit m at insn then Hits c at ∷ [] else [])
pass_acts m c at insn life mark =
    ap (λ (xs : List Operation). (if is_hit m at insn then Hits c at ∷ [] else []) ++ xs) (mark_acts m c life mark) ∙ append-nil _
