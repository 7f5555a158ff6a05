-- Laws of runs and replays.
use Rattle.std.proofs.Common.{◌∙◌, inl, inr, ℕ, List, [], ◌∷◌, ◌++◌, refl, sym, ap, subst}
use Rattle.std.specs.List.{All}
use Rattle.std.proofs.lemmas.List.Elements.{All-cons, All-nil}
use Rattle.module_image.specs.Module.{IsAccepted, Module}
use Rattle.run_journal.specs.declared.event.Event.{Event}
use Rattle.run_journal.specs.Journals.{Reads}
use Rattle.run_journal.specs.Laws.{HasLine}
use Rattle.run_journal.specs.ReaderState.{ReaderState}
use Rattle.run_journal.specs.Reading.{IsBad, ReadsEnd, at_start}
use Rattle.run_journal.specs.Spelling.{journal}
use Rattle.run_journal.proofs.Journals.{ends_are_one, events_are_one, journals_are_apart, journals_are_read}
use Rattle.script_runner.proofs.Reaching.{reached_next}
use Rattle.script_runner.specs.Operations.{operations}
use Rattle.script_text.specs.Laws.{IsScriptOf}
use Rattle.script_text.specs.Script.{ScriptValue}
use Rattle.switching.specs.Journal.{IsFinished, IsLegal, IsLegalSoFar, after, lines}
use Rattle.switching.specs.Laws.{IsReached}
use Rattle.switching.specs.May.{May}
use Rattle.switching.specs.Next.{next}
use Rattle.switching.specs.State.{State, first}
use Rattle.recorded_run.specs.Laws.{LegalJournalsAreReplayed, ReplaysAreOne, RunsAreReplayed, TalliesAreOne}
use Rattle.recorded_run.specs.Replaying.{IsMissing, IsNoNext, IsRefusedAt, IsRefusedNext, IsReplayed}
use Rattle.recorded_run.proofs.Events.{after_both, legal_after}
use Rattle.recorded_run.proofs.HasLine.{may_has_line}
use Rattle.recorded_run.proofs.Readings.{ReadsRest, reads_rest}
use Rattle.recorded_run.proofs.Tallies.{tallies_one}

-- each event that may come in its place has a line
all_have_lines : (m : Module) (s : State) (events : List Event) → IsReached m s → IsLegalSoFar m s events → All HasLine events
all_have_lines m s [] reached legal = All-nil HasLine
all_have_lines m s (e ∷ events) reached legal =
    All-cons HasLine e events (may_has_line m s e reached legal.0)
    (all_have_lines m (next m s e) events (reached_next m s e reached legal.0) legal.1)

first_reached : (m : Module) (script : ScriptValue) → IsAccepted m → IsScriptOf m script → IsReached m (first m script)
first_reached m script accepted of =
    record { accepted = accepted; script = script; is_script = of; events = []; legal = tt; is = refl }

-- what is read next of a journal is not refused
not_bad : (m : Module) (s : State) (reader last end : ReaderState) (rest : List Event) (line : ℕ) → Reads reader rest last → ReadsEnd last end → IsBad reader (record { line = line }) → ⊥
not_bad m s reader last end [] line reads ends bad =
    bad.not_end (subst (λ (r : ReaderState). ReadsEnd r end) (sym reads) ends).lines
not_bad m s reader last end (e ∷ rest) line reads ends bad =
    bad.no_event e reads.0.rest reads.1.has_line reads.1.lines

not_next : (m : Module) (s : State) (reader last end : ReaderState) (rest : List Event) (line : ℕ) → Reads reader rest last → ReadsEnd last end → IsLegalSoFar m s rest → IsNoNext m s reader line → ⊥
not_next m s reader last end [] line reads ends legal wrong =
    (ends_are_one reader end wrong.next (subst (λ (r : ReaderState). ReadsEnd r end) (sym reads) ends)).0 wrong.event wrong.reads
not_next m s reader last end (e ∷ rest) line reads ends legal wrong =
    let one = events_are_one reader reads.0 wrong.next e wrong.event reads.1 wrong.reads in
    wrong.not (subst (λ (x : Event). May m s x) one.0 legal.0)

not_missing : (m : Module) (s : State) (reader last end : ReaderState) (rest : List Event) (line : ℕ) → Reads reader rest last → IsFinished (after m s rest) → IsMissing s reader line → ⊥
not_missing m s reader last end [] line reads finished missing = missing.not finished
not_missing m s reader last end (e ∷ rest) line reads finished missing =
    (ends_are_one reader missing.end reads.0 missing.reads).0 e reads.1

not_refused : (m : Module) (s : State) (reader last end : ReaderState) (rest : List Event) (line : ℕ) → Reads reader rest last → ReadsEnd last end → IsLegalSoFar m s rest → IsFinished (after m s rest) → IsRefusedNext m s reader line → ⊥
not_refused m s reader last end rest line reads ends legal finished (inl bad) =
    not_bad m s reader last end rest line reads ends bad
not_refused m s reader last end rest line reads ends legal finished (inr (inl wrong)) =
    not_next m s reader last end rest line reads ends legal wrong
not_refused m s reader last end rest line reads ends legal finished (inr (inr missing)) =
    not_missing m s reader last end rest line reads finished missing

-- a text that is replayed is refused at no line
replayed_not_refused : (m : Module) (s : State) (text : List ℕ) (events others : List Event) (line : ℕ) → IsReplayed m s text events → IsRefusedAt m s text others line → ⊥
replayed_not_refused m s text events others line h refused =
    let last : ReaderState = h.reads.0 in
    let end : ReaderState = h.reads.1 in
    let more : ReadsRest events others refused.reader last = reads_rest (at_start text) events others last end refused.reader h.reads.2 h.reads.3 refused.before.reads in
    let legal : IsLegalSoFar m s (others ++ more.rest) = subst (λ (es : List Event). IsLegalSoFar m s es) more.whole h.legal.so_far in
    let finished : IsFinished (after m (after m s others) more.rest) = subst (λ (t : State). IsFinished t) (ap (λ (es : List Event). after m s es) more.whole ∙ after_both m s others more.rest) h.legal.finished in
    not_refused m (after m s others) refused.reader last end more.rest line more.reads h.reads.3
    (legal_after m s others more.rest legal) finished refused.refused

legal_replayed : (m : Module) (script : ScriptValue) (events : List Event) → IsAccepted m → IsScriptOf m script → IsLegal m (first m script) events → IsReplayed m (first m script) (journal events) events
legal_replayed m script events accepted of legal = record {
  reads = (journals_are_read (journal events) events).1 (refl, all_have_lines m (first m script) events (first_reached m script accepted of) legal.so_far);
  legal = legal;
}

pub legal_journals_are_replayed : LegalJournalsAreReplayed
legal_journals_are_replayed m script events accepted of legal =
    let is : IsReplayed m (first m script) (journal events) events = legal_replayed m script events accepted of legal in
    (is, λ others line refused. replayed_not_refused m (first m script) (journal events) events others line is refused)

pub replays_are_one : ReplaysAreOne
replays_are_one m script text events others h k =
    let one = (journals_are_read text events).0 h.reads in
    let other = (journals_are_read text others).0 k.reads in
    (one.0, journals_are_apart events others one.1 other.1 (sym one.0 ∙ other.0))

pub runs_are_replayed : RunsAreReplayed
runs_are_replayed m script seed events accepted of run = legal_replayed m script events accepted of run.legal

pub tallies_are_one : TalliesAreOne
tallies_are_one m s events tracers text other told is also =
    tallies_one tracers (operations m (lines m s events)) text other told is also
