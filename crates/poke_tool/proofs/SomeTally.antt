-- Of the tracers of a run something can always be said.
use Rattle.std.proofs.Common.{◌++◌, ℕ, List, [], ◌∷◌, map, Option, Some, None, option_map, refl}
use Rattle.std.specs.List.{flat_map}
use Rattle.tracer_ops.specs.Meaning.{Meaning, total}
use Rattle.recorded_run.specs.declared.tracing.Dropped.{Dropped}
use Rattle.recorded_run.specs.Fed.{AreAnswers, Fed}
use Rattle.recorded_run.specs.Tally.{IsTally, dropped_line, tracer_lines}
use Rattle.recorded_run.proofs.Tallies.{are_some_totals, some_totals}

-- an answer that a drop may have
abbrev some_answer : ℕ × Option Meaning → Dropped
some_answer drop = record { place = drop.0; total = option_map (λ (t : Meaning). total t.numbers) drop.1 }

are_some_answers : (drops : List (ℕ × Option Meaning)) → AreAnswers drops (map some_answer drops)
are_some_answers [] = tt
are_some_answers ((place, None) ∷ drops) = (refl, tt, are_some_answers drops)
are_some_answers ((place, Some t) ∷ drops) = (refl, (λ told. refl), are_some_answers drops)

pub record SomeTally (f : Fed) : Type 0 where
  pub text : List ℕ
  pub is : IsTally f text

pub some_tally : (f : Fed) → SomeTally f
some_tally f = record {
  text = flat_map dropped_line (map some_answer f.drops) ++ tracer_lines 0 (some_totals f.left);
  is = record {
    answers = map some_answer f.drops;
    totals = some_totals f.left;
    drops = are_some_answers f.drops;
    left = are_some_totals f.left;
    is = refl;
  };
}
