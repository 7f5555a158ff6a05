-- The headline follows from the laws of the two machines.
use Rattle.std.proofs.Common.{◌≡◌, ℕ, List, [], ◌∷◌, ◌++◌, Contains, refl, sym, ap, subst, append_assoc}
use Rattle.key_state.specs.Outcome.{HoldsWanted}
use Rattle.module_image.specs.Module.{IsAccepted, Module, States}
use Rattle.module_image.specs.SiteLine.{site_lines}
use Rattle.run_journal.specs.declared.event.Event.{Event}
use Rattle.script_text.specs.Laws.{IsScriptOf}
use Rattle.script_text.specs.Script.{ScriptValue}
use Rattle.switching.specs.Journal.{IsLegal, IsLegalSoFar, lines}
use Rattle.switching.specs.Laws.{IsReached, held_text}
use Rattle.switching.specs.Next.{next}
use Rattle.switching.specs.Said.{Passes, TraceLine, said}
use Rattle.switching.specs.State.{State, first}
use Rattle.switching.specs.Switching as switching
use Rattle.switching.proofs.Ending.{endings}
use Rattle.switching.proofs.NeverOld.{never_old}
use Rattle.switching.proofs.Passing.{only_new, passes_whole}
use Rattle.switching.proofs.Reached.{sites_hold}
use Rattle.switching.proofs.Theorem.{first_related, journals_done, switched}
use Rattle.script_runner.specs.TraceText.{trace_text}
use Rattle.recorded_run.specs.Headline.{IsSwitched, NeverOldAgain, OnlyNewAfterReturn, PassesWhole, at_event}
use Rattle.recorded_run.specs.Laws.{LegalRunsAreWhole}
use Rattle.recorded_run.proofs.Events.{after_both, legal_after}

-- what comes first may come by itself
legal_before : (m : Module) (s : State) (events more : List Event) → IsLegalSoFar m s (events ++ more) → IsLegalSoFar m s events
legal_before m s [] more legal = tt
legal_before m s (e ∷ events) more legal = (legal.0, legal_before m (next m s e) events more legal.1)

module _ (m : Module) (script : ScriptValue) (events : List Event) (accepted : IsAccepted m) (of : IsScriptOf m script) (legal : IsLegal m (first m script) events) where
  -- the events are some and then others
  split : (before rest : List Event) → before ++ rest ≡ events → IsLegalSoFar m (first m script) (before ++ rest)
  split before rest whole = subst (λ (es : List Event). IsLegalSoFar m (first m script) es) (sym whole) legal.so_far

  reached_at : (before rest : List Event) → before ++ rest ≡ events → IsReached m (at_event m script before)
  reached_at before rest whole = record {
    accepted = accepted;
    script = script;
    is_script = of;
    events = before;
    legal = legal_before m (first m script) before rest (split before rest whole);
    is = refl;
  }

  legal_at : (before rest : List Event) → before ++ rest ≡ events → IsLegalSoFar m (at_event m script before) rest
  legal_at before rest whole = legal_after m (first m script) before rest (split before rest whole)

  -- ---- the six sentences

  passes : PassesWhole m script events
  passes before e rest c at insn whole shows =
      passes_whole m (at_event m script before) e c at insn (reached_at before (e ∷ rest) whole) (legal_at before (e ∷ rest) whole).0 shows

  never_again : NeverOldAgain m script events
  never_again before e between later rest c at change insn whole one changes shows shows_later =
      let s : State = at_event m script before in
      let far : IsLegalSoFar m s (e ∷ (between ++ later ∷ rest)) = legal_at before (e ∷ (between ++ later ∷ rest)) whole in
      let near : IsLegalSoFar m s (e ∷ (between ++ later ∷ [])) = legal_before m s (e ∷ (between ++ later ∷ [])) rest
      (subst (λ (es : List Event). IsLegalSoFar m s (e ∷ es)) (sym (append_assoc between (later ∷ []) rest)) far) in
      never_old m s e between later c at change insn (reached_at before (e ∷ (between ++ later ∷ rest)) whole) near one.same changes one.open_still shows
      (subst (λ (t : State). Contains (said m t later) (Passes c at insn)) (after_both m (first m script) before (e ∷ between)) shows_later)

  only_new_then : OnlyNewAfterReturn m script events
  only_new_then before e rest c at insn whole closed shows =
      only_new m (at_event m script before) e c at insn (reached_at before (e ∷ rest) whole) (legal_at before (e ∷ rest) whole).0 closed shows

reached_last : (m : Module) (script : ScriptValue) (events : List Event) → IsAccepted m → IsScriptOf m script → IsLegal m (first m script) events → IsReached m (at_event m script events)
reached_last m script events accepted of legal = record {
  accepted = accepted;
  script = script;
  is_script = of;
  events = events;
  legal = legal.so_far;
  is = refl;
}

-- the lines of both machines are the same
same_trace : (ls others : List TraceLine) (rest : List ℕ) → ls ≡ others → trace_text ls ++ rest ≡ trace_text others ++ rest
same_trace ls others rest same = ap (λ (xs : List TraceLine). trace_text xs ++ rest) same

is_switched : (m : Module) (script : ScriptValue) (events : List Event) → IsAccepted m → IsScriptOf m script → IsLegal m (first m script) events → IsSwitched m script events
is_switched m script events accepted of legal =
    let both = switched m (first m script) (switching.first m script) events accepted (first_related m script accepted of) legal.so_far in
    let s : State = at_event m script events in
    let holds : HoldsWanted m s.states (held_text m s) = sites_hold m s (reached_last m script events accepted of legal) legal.finished.closed in
    record {
      defined = both.defined;
      done = journals_done m script events accepted of legal;
      held = held_text m s;
      holds = subst (λ (states : States). HoldsWanted m states (held_text m s)) (sym both.related.states) holds;
      is = same_trace (lines m (first m script) events) (switching.lines m (switching.first m script) events) (site_lines m.base (held_text m s) m.sites) both.same;
    }

pub legal_runs_are_whole : LegalRunsAreWhole
legal_runs_are_whole m script events accepted of legal = record {
  switched = is_switched m script events accepted of legal;
  whole = passes m script events accepted of legal;
  never_old_again = never_again m script events accepted of legal;
  only_new_after_return = only_new_then m script events accepted of legal;
  holds_what_is_wanted = sites_hold m (at_event m script events) (reached_last m script events accepted of legal) legal.finished.closed;
  ends_as_commands = endings m script events accepted of legal;
}
