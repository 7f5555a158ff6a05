-- Over every legal journal the switching machine is defined, shows the same lines, and its states stay related.
use Rattle.std.proofs.Common.{◌≡◌, ◌∙◌, ℕ, List, [], ◌∷◌, ◌++◌, map, All, Option, Some, None, option_map, slice_get, refl, sym, ap, subst, arith}
use Rattle.std.proofs.lemmas.List.Elements.{All-contains}
use Rattle.std.proofs.lemmas.Option.{get_or_from_slice_get, none-some, same_Some, slice_get-map, slice_get_within}
use Rattle.x64_subset.specs.Proc as proc
use Rattle.key_state.proofs.First.{first_holds, first_of}
use Rattle.module_image.specs.Command.{IsFunction}
use Rattle.module_image.specs.Flows.{Flows}
use Rattle.module_image.specs.Held.{first_states}
use Rattle.module_image.specs.Layout.{IsStart}
use Rattle.module_image.specs.Module.{IsAccepted, Module, layout_of}
use Rattle.module_image.proofs.StartLaws.{functions_start}
use Rattle.run_journal.specs.declared.event.Event.{Event}
use Rattle.run_journal.specs.declared.event.Event.TheVariants.{Begin, Write, Request, Take, Return, Plain, At, Handle, Tick}
use Rattle.script_text.specs.Laws.{IsScriptOf}
use Rattle.script_text.specs.Script.{ScriptValue}
use Rattle.switching.specs.Journal.{IsLegalSoFar, after, lines}
use Rattle.switching.specs.Laws.{JournalsAreDone, TracesAreSwitched}
use Rattle.switching.specs.May.{May}
use Rattle.switching.specs.Next.{next}
use Rattle.switching.specs.Said.{TraceLine}
use Rattle.switching.specs.State.{Cpu, State, first, starting}
use Rattle.switching.specs.Switching.{Switching, without_runs}
use Rattle.switching.specs.Switching as switching
use Rattle.switching.proofs.Alike.{like_self}
use Rattle.switching.proofs.Begins.{follows_begin}
use Rattle.switching.proofs.Handling.{follows_handle}
use Rattle.switching.proofs.Holding.{text_of_holds}
use Rattle.switching.proofs.Invariant.{CpuPair, IsCurrent, Related, open_changes, steps_left}
use Rattle.switching.proofs.Steps.{follows_request, follows_return, follows_take, follows_write}
use Rattle.switching.proofs.Turns.{Follows, follows_at, follows_plain, follows_tick}

-- ---- every event

pub follows : (m : Module) (s : State) (t : Switching) (e : Event) → IsAccepted m → Related m s t → May m s e → Follows m s t e
follows m s t Begin accepted h may = follows_begin m s t accepted h may
follows m s t Write accepted h may = follows_write m s t accepted h may
follows m s t Request accepted h may = follows_request m s t accepted h may
follows m s t (Take c) accepted h may = follows_take m s t accepted h c may
follows m s t Return accepted h may = follows_return m s t accepted h may
follows m s t (Plain c) accepted h may = follows_plain m s t c accepted h may
follows m s t (At c bytes) accepted h may =
    let f = follows_at m s t c bytes.items accepted h may in
    record { needs = f.needs; lines = f.lines; kept = f.kept }
follows m s t (Handle c) accepted h may = follows_handle m s t c accepted h may
follows m s t (Tick c) accepted h may = follows_tick m s t c h

-- ---- the first states

start_flows : (m : Module) (entry : ℕ) → IsStart (layout_of m) entry → Flows (layout_of m) (proc.start entry)
start_flows m entry is = record { stands = λ runs. is; room = refl; few = omega arith; returns = λ i below. absurd (omega (arith, below)) }

first_pair : (m : Module) (entries : List ℕ) → IsAccepted m → All (IsFunction m) entries → (c : ℕ) (p : Cpu) → slice_get (map starting entries) c ≡ Some p → CpuPair m (map proc.start entries) c p
first_pair m entries accepted all c p here = by (slice_get entries c) refl (sym (slice_get-map starting entries c) ∙ here)
  where
    by : (o : Option ℕ) → slice_get entries c ≡ o → option_map starting (slice_get entries c) ≡ Some p → CpuPair m (map proc.start entries) c p
    by None is there = (let none : None ≡ Some p = ap (option_map starting) (sym is) ∙ there in absurd (none-some p none))
    by (Some entry) is there =
        let same : starting entry ≡ p = same_Some (starting entry) p (ap (option_map starting) (sym is) ∙ there) in
        let function : IsFunction m entry = All-contains (IsFunction m) entries entry all (c, slice_get_within entries c entry is, get_or_from_slice_get entries c entry entry is) in
        subst (λ (x : Cpu). CpuPair m (map proc.start entries) c x) same (record {
          proc = proc.start entry;
          here = slice_get-map proc.start entries c ∙ ap (option_map proc.start) is;
          like = like_self (proc.start entry);
          flows = start_flows m entry (functions_start m function.0 entry accepted function.1);
        })

first_current : (entries : List ℕ) (c : ℕ) (p : Cpu) → slice_get (map starting entries) c ≡ Some p → IsCurrent [] p
first_current entries c p here = by (slice_get entries c) (sym (slice_get-map starting entries c) ∙ here)
  where
    by : (o : Option ℕ) → option_map starting o ≡ Some p → IsCurrent [] p
    by None there = absurd (none-some p there)
    by (Some entry) there = subst (λ (x : Cpu). IsCurrent [] x) (same_Some (starting entry) p there) (record { free = refl; mark = refl })

pub first_related : (m : Module) (script : ScriptValue) → IsAccepted m → IsScriptOf m script → Related m (first m script) (switching.first m script)
first_related m script accepted is = record {
  steps = refl;
  steps_of = is.steps;
  updates = refl;
  states = refl;
  states_of = first_of m accepted;
  opened = refl;
  pair = first_pair m script.entries accepted is.entries;
  stands = record {
    forms_are = λ at n found. refl;
    text = text_of_holds m (first_states m) accepted (first_of m accepted) (first_holds m accepted);
    cpus_are = first_current script.entries;
    nobody = refl;
  };
}

-- ---- over a journal

pub record Switched (m : Module) (s : State) (t : Switching) (events : List Event) : Type 0 where
  pub defined : switching.IsDefined m t events
  pub same : lines m s events ≡ switching.lines m t events
  pub related : Related m (after m s events) (switching.after m t events)

pub switched : (m : Module) (s : State) (t : Switching) (events : List Event) → IsAccepted m → Related m s t → IsLegalSoFar m s events → Switched m s t events
switched m s t [] accepted h legal = record { defined = tt; same = refl; related = h }
switched m s t (e ∷ events) accepted h legal =
    let f = follows m s t e accepted h legal.0 in
    let rest = switched m (next m s e) (switching.next m t e) events accepted f.kept legal.1 in
    record {
      defined = (f.needs, rest.defined);
      same = ap (λ (ls : List TraceLine). ls ++ lines m (next m s e) events) f.lines ∙ ap (λ (ls : List TraceLine). switching.said m t e ++ ls) rest.same;
      related = rest.related;
    }

pub traces_switched : TracesAreSwitched
traces_switched m script events accepted is legal =
    let s = switched m (first m script) (switching.first m script) events accepted (first_related m script accepted is) legal in
    record { defined = s.defined; same = s.same }

pub journals_done : JournalsAreDone
journals_done m script events accepted is legal =
    let h = (switched m (first m script) (switching.first m script) events accepted (first_related m script accepted is) legal.so_far).related in
    record {
      steps = h.steps ∙ ap (λ o. without_runs (steps_left o (after m (first m script) events).steps)) legal.finished.closed ∙ ap (λ steps. without_runs steps) legal.finished.steps;
      closed = h.opened ∙ ap open_changes legal.finished.closed;
    }
