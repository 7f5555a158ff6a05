-- What is printed at the end: what the sites hold, and the tallies.
use Rattle.std.proofs.Common.{◌≡◌, ◌∙◌, ℕ, List, ◌++◌, Result, ap, subst, append_assoc}
use Rattle.std.specs.List.{flat_map}
use Rattle.module_image.specs.Module.{Module}
use Rattle.poke_base.specs.declared.host.WriteFail.{WriteFail}
use Rattle.poke_base.specs.Host.{Outside, Prints}
use Rattle.run_journal.specs.declared.event.Event.{Event}
use Rattle.script_runner.specs.World.{StandsFor, WorldSeen}
use Rattle.switching.specs.Journal.{after}
use Rattle.switching.specs.State.{State}
use Rattle.tracer_ops.specs.Meaning.{Meaning}
use Rattle.recorded_run.specs.declared.tracing.Dropped.{Dropped}
use Rattle.recorded_run.specs.Fed.{fed_events}
use Rattle.recorded_run.specs.Stepping.{Tracing}
use Rattle.recorded_run.specs.Tally.{AreTotals, IsTally, dropped_line, tracer_lines}
use Rattle.recorded_run.specs.Trace.{sites_text}
use Rattle.recorded_run.specs.Underway.{HasDone}
use Rattle.recorded_run.proofs.Tallies.{tally_of}

-- it was printed after some events, or a prefix of it
pub record PrintsEnd (m : Module) (s : State) (events : List Event) (tracers : List Meaning) (old new : Outside) (result : Result (Unit {0}) WriteFail) : Type 0 where
  pub tally : List ℕ
  pub is_tally : IsTally (fed_events m s events tracers) tally
  pub prints : Prints {T = Unit {0}} {E = WriteFail} old new (sites_text m (after m s events) ++ tally) result

-- what is printed of a machine, of drops and of tracers
abbrev pub EndOf : WorldSeen → List Dropped → List Meaning → Outside → Outside → Result (Unit {0}) WriteFail → Type 0
EndOf w drops tracers old new result =
    (t : State) → StandsFor w t → (totals : List ℕ) × AreTotals tracers totals × Prints {T = Unit {0}} {E = WriteFail} old new (sites_text w.image t ++ flat_map dropped_line drops ++ tracer_lines 0 totals) result

pub end_printed : (m : Module) (s : State) (events : List Event) (tracers : List Meaning) (w : WorldSeen) (t : Tracing) (shown : List Dropped) (old new : Outside) (result : Result (Unit {0}) WriteFail) → HasDone m s events tracers w t → shown ≡ t.drops → EndOf w shown t.tracers old new result → PrintsEnd m s events tracers old new result
end_printed m s events tracers w t shown old new result h same prints =
    let p = prints (after m s events) h.stands in
    record {
      tally = flat_map dropped_line t.drops ++ tracer_lines 0 p.0;
      is_tally = tally_of (fed_events m s events tracers) t.tracers t.drops p.0 h.fed p.1;
      prints =
          subst (λ (text : List ℕ). Prints {T = Unit {0}} {E = WriteFail} old new text result)
          (ap (λ (n : Module). sites_text n (after m s events) ++ flat_map dropped_line shown ++ tracer_lines 0 p.0) h.image
          ∙ ap (λ (drops : List Dropped). sites_text m (after m s events) ++ flat_map dropped_line drops ++ tracer_lines 0 p.0) same
          ∙ append_assoc (sites_text m (after m s events)) (flat_map dropped_line t.drops) (tracer_lines 0 p.0))
          p.2;
    }
