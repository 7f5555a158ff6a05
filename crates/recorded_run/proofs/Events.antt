-- What one event more shows, and what a list of events is that two make together.
use Rattle.std.proofs.Common.{◌≡◌, ◌∙◌, List, [], ◌∷◌, ◌++◌, refl, sym, ap, append-nil, append_assoc}
use Rattle.std.specs.List.{flat_map}
use Rattle.std.proofs.lemmas.Grind.{flat_map-append}
use Rattle.module_image.specs.Module.{Module}
use Rattle.run_journal.specs.declared.event.Event.{Event}
use Rattle.script_runner.specs.Operations.{Operation, operation_of, operations}
use Rattle.script_runner.specs.TraceText.{line_text}
use Rattle.switching.specs.Journal.{IsLegalSoFar, after, lines}
use Rattle.switching.specs.Next.{next}
use Rattle.switching.specs.Said.{TraceLine, said}
use Rattle.switching.specs.State.{State}
use Rattle.tracer_ops.specs.Meaning.{Meaning}
use Rattle.recorded_run.specs.Fed.{Fed, fed, fed_events, handed}
use Rattle.recorded_run.specs.Trace.{event_text, events_text}
use Rattle.recorded_run.proofs.Feeding.{fed-append}

-- the lines of events, and then those of one more
pub lines_push : (m : Module) (s : State) (events : List Event) (e : Event) → lines m s (events ++ e ∷ []) ≡ lines m s events ++ said m (after m s events) e
lines_push m s [] e = append-nil (said m s e)
lines_push m s (f ∷ events) e =
    ap (λ (ls : List TraceLine). said m s f ++ ls) (lines_push m (next m s f) events e)
    ∙ sym (append_assoc (said m s f) (lines m (next m s f) events) (said m (after m (next m s f) events) e))

-- what events show, and then one more
pub events_text_push : (m : Module) (s : State) (events : List Event) (e : Event) → events_text m s (events ++ e ∷ []) ≡ events_text m s events ++ event_text m (after m s events) e
events_text_push m s events e =
    ap (λ (ls : List TraceLine). flat_map line_text ls) (lines_push m s events e)
    ∙ flat_map-append line_text (lines m s events) (said m (after m s events) e)

-- what lines make of tracers, and then further ones
fed_push : (m : Module) (f : Fed) (ls earlier later : List TraceLine) → ls ≡ earlier ++ later → fed f (operations m ls) ≡ fed (fed f (operations m earlier)) (operations m later)
fed_push m f ls earlier later is =
    ap (λ (xs : List TraceLine). fed f (operations m xs)) is
    ∙ ap (λ (os : List Operation). fed f os) (flat_map-append (operation_of m) earlier later)
    ∙ fed-append f (operations m earlier) (operations m later)

-- what events make of tracers, and then one more
pub fed_events_push : (m : Module) (s : State) (events : List Event) (e : Event) (tracers : List Meaning) → fed_events m s (events ++ e ∷ []) tracers ≡ fed (fed_events m s events tracers) (operations m (said m (after m s events) e))
fed_events_push m s events e tracers =
    fed_push m (handed tracers) (lines m s (events ++ e ∷ [])) (lines m s events) (said m (after m s events) e) (lines_push m s events e)

-- the state after two lists of events
pub after_both : (m : Module) (s : State) (events more : List Event) → after m s (events ++ more) ≡ after m (after m s events) more
after_both m s [] more = refl
after_both m s (e ∷ events) more = after_both m (next m s e) events more

-- where two lists of events may come, the second may come after the first
pub legal_after : (m : Module) (s : State) (events more : List Event) → IsLegalSoFar m s (events ++ more) → IsLegalSoFar m (after m s events) more
legal_after m s [] more legal = legal
legal_after m s (e ∷ events) more legal = legal_after m (next m s e) events more legal.1
