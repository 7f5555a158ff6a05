-- What stands after a trace: what became of the tracers.
use Rattle.std.specs.Prelude.{◌≡◌, ⊤, ℕ, ◌+◌, List, [], ◌∷◌, ◌++◌, codes, Option, Some, None}
use Rattle.std.specs.List.{flat_map}
use Rattle.poke_base.specs.Number.{decimal}
use Rattle.tracer_ops.specs.Meaning.{IsTotal, Meaning}
use Rattle.recorded_run.specs.declared.tracing.Dropped.{Dropped}
use Rattle.recorded_run.specs.Fed.{AreAnswers, Fed}

-- `dropped T total N`, or `dropped T none` where no tracer was at the place
abbrev pub answer_text : Option ℕ → List ℕ
answer_text None = codes " none"
answer_text (Some total) = codes " total " ++ decimal total

abbrev pub dropped_line : Dropped → List ℕ
dropped_line d = codes "dropped " ++ decimal d.place ++ answer_text d.total ++ 10 ∷ []

-- `tracer I total N`
abbrev pub tracer_line : ℕ → ℕ → List ℕ
tracer_line place total = codes "tracer " ++ decimal place ++ codes " total " ++ decimal total ++ 10 ∷ []

-- a line for each total, with its place; the first has the place that is given
abbrev pub tracer_lines : ℕ → List ℕ → List ℕ
tracer_lines place [] = []
tracer_lines place (total ∷ totals) = tracer_line place total ++ tracer_lines (place + 1) totals

-- what tracers have counted
abbrev pub AreTotals : List Meaning → List ℕ → Type 0
AreTotals [] [] = ⊤
AreTotals (tracer ∷ tracers) (total ∷ totals) = IsTotal tracer total × AreTotals tracers totals
AreTotals [] (total ∷ totals) = ⊥
AreTotals (tracer ∷ tracers) [] = ⊥

-- a line for each drop, in order, and then one for each tracer that is left
pub record IsTally (f : Fed) (text : List ℕ) : Type 0 where
  pub answers : List Dropped
  pub totals : List ℕ
  pub drops : AreAnswers f.drops answers
  pub left : AreTotals f.left totals
  pub is : text ≡ flat_map dropped_line answers ++ tracer_lines 0 totals
