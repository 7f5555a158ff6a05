-- The endings that the switching machine shows are the outcomes of the script's commands.
use Rattle.std.proofs.Common.{◌≡◌, ◌∙◌, ◌+◌, ℕ, Bool, true, false, if◌then◌else◌, List, [], ◌∷◌, ◌++◌, length, drop, Option, Some, None, Result, Ok, Err, option_map, slice_get, refl, sym, ap, append_assoc, append-nil}
use Rattle.std.proofs.lemmas.Grind.{flat_map-append}
use Rattle.insn_forms.specs.declared.forms.Change.{Change}
use Rattle.insn_forms.specs.Spelling.{size}
use Rattle.x64_subset.specs.declared.insn.Insn.{Insn}
use Rattle.x64_subset.specs.declared.proc.Life.{Life}
use Rattle.x64_subset.specs.declared.proc.Mark.{Mark}
use Rattle.x64_subset.specs.declared.proc.Mark.TheVariants.{None as NoMark, Out, Ended}
use Rattle.x64_subset.specs.declared.proc.Proc.{Proc}
use Rattle.x64_subset.specs.Effect.{does}
use Rattle.x64_subset.specs.Whole.{whole}
use Rattle.key_state.specs.declared.count.CountRefused.{CountRefused}
use Rattle.key_state.specs.After as key
use Rattle.key_state.specs.Changes.{changes, first_foreign}
use Rattle.key_state.specs.Outcome.{Clashes, Ending, Returns, ending_at, ending_to, kept_at, outcomes, settled_to}
use Rattle.module_parts.specs.declared.command.Command.{Command}
use Rattle.module_image.specs.Held.{first_states}
use Rattle.module_image.specs.Module.{Module, States, plain_at}
use Rattle.module_image.specs.Sites.{code_at}
use Rattle.poke_batch.specs.Poke.{spelled}
use Rattle.run_journal.specs.declared.event.Event.{Event}
use Rattle.run_journal.specs.declared.event.Event.TheVariants.{Begin, Write, Request, Take, Return, Plain, At, Handle, Tick}
use Rattle.script_text.specs.declared.script.ScriptStep.{ScriptStep}
use Rattle.script_text.specs.declared.script.ScriptStep.TheVariants as step
use Rattle.switching.specs.Beginning.{Goes, Refuses, beginning_to, clash_of_foreign, unless}
use Rattle.script_text.specs.Commands.{commands}
use Rattle.switching.specs.Laws.{EndingsAreOutcomes, end_of, ends, numbered}
use Rattle.switching.specs.Said.{TraceLine, said_begun, said_first, said_mark}
use Rattle.switching.specs.Switching.{Needs, NeedsBegin, PassKind, Switching, at_proc, begun, begun_by, change_at, form_of, is_breakpoint, new_pass, of_proc, pass_of, passes, plain_done, returned, said_done, said_pass, with_proc, without_runs}
use Rattle.switching.specs.Switching as switching
use Rattle.switching.proofs.Theorem.{journals_done, traces_switched}

-- the endings that are to come: that of the open update, and those of the steps that haven't begun
abbrev of_steps : Module → ℕ → States → List ScriptStep → List (ℕ × Ending)
of_steps m updates states steps = numbered (updates + 1) (outcomes m states (commands steps))

abbrev of_opened : ℕ → Option (List Change) → List (ℕ × Ending) → List (ℕ × Ending)
of_opened updates None rest = rest
of_opened updates (Some cs) rest = (updates, Returns (length cs)) ∷ rest

abbrev to_end : Module → Switching → List (ℕ × Ending)
to_end m t = of_opened t.updates t.opened (of_steps m t.updates t.states t.steps)

-- ---- lines without endings

mark_ends : (c : ℕ) (life : Life) (mark : Mark) → ends (said_mark c life mark) ≡ []
mark_ends c life NoMark = refl
mark_ends c life (Out port value) = refl
mark_ends c life Ended = refl

done_ends : (c : ℕ) (o : Option (Insn × ℕ)) (p : Proc) → ends (said_done c o p) ≡ []
done_ends c None p = refl
done_ends c (Some (insn, len)) p = mark_ends c (does insn len p).0.life (does insn len p).1

pass_ends : (c : ℕ) (kind : PassKind) (p : Proc) → ends (said_pass c kind p) ≡ []
pass_ends c kind p = mark_ends c (whole (form_of kind) p.ip p).0.life (whole (form_of kind) p.ip p).1

proc_ends : (o : Option Proc) (f : Proc → List TraceLine) → ((p : Proc) → ends (f p) ≡ []) → ends (of_proc o f) ≡ []
proc_ends None f none = refl
proc_ends (Some p) f none = none p

-- ---- the steps of the switching machine

-- an event goes on: what it shows, and what is then to come, is what was to come
abbrev GoesOn : Module → Switching → Event → Type 0
GoesOn m t e = ends (switching.said m t e) ++ to_end m (switching.next m t e) ≡ to_end m t

-- an event that shows no ending, and keeps updates, states and steps
quiet : (m : Module) (t u : Switching) (ls : List TraceLine) → ends ls ≡ [] → to_end m u ≡ to_end m t → ends ls ++ to_end m u ≡ to_end m t
quiet m t u ls none same = ap (λ (xs : List (ℕ × Ending)). xs ++ to_end m u) none ∙ same

proc_same : (m : Module) (t : Switching) (o : Option Proc) (f : Proc → Switching) → ((p : Proc) → to_end m (f p) ≡ to_end m t) → to_end m (at_proc o t f) ≡ to_end m t
proc_same m t None f each = refl
proc_same m t (Some p) f each = each p

-- by its beginning an update is refused, or goes to states by changes
goes_to : (m : Module) (t : Switching) (new : States) (cs : List Change) (rest : List ScriptStep) → t.opened ≡ None → ends (said_begun (t.updates + 1) (Goes new cs)) ++ to_end m (begun (record t { steps = rest }) (Goes new cs)) ≡ numbered (t.updates + 1) (Returns (length cs) ∷ outcomes m new (commands rest))
goes_to m t new [] rest closed = ap (λ (o : Option (List Change)). (t.updates + 1, Returns 0) ∷ of_opened (t.updates + 1) o (of_steps m (t.updates + 1) new rest)) closed
goes_to m t new (c ∷ cs) rest closed = refl

refuses_to : (m : Module) (t : Switching) (ending : Ending) (rest : List ScriptStep) → t.opened ≡ None → ends (said_begun (t.updates + 1) (Refuses ending)) ++ to_end m (begun (record t { steps = rest }) (Refuses ending)) ≡ numbered (t.updates + 1) (ending ∷ outcomes m t.states (commands rest))
refuses_to m t ending rest closed = ap (λ (o : Option (List Change)). (t.updates + 1, ending) ∷ of_opened (t.updates + 1) o (of_steps m (t.updates + 1) t.states rest)) closed

goes_unless : (m : Module) (t : Switching) (new : States) (rest : List ScriptStep) (cs : List Change) (o : Option Change) → t.opened ≡ None → ends (said_begun (t.updates + 1) (unless (option_map (λ (c : Change). Clashes c.at (code_at m.base m.text c.at (size c.old)) (spelled c.old c.at)) o) new cs)) ++ to_end m (begun (record t { steps = rest }) (unless (option_map (λ (c : Change). Clashes c.at (code_at m.base m.text c.at (size c.old)) (spelled c.old c.at)) o) new cs)) ≡ numbered (t.updates + 1) (ending_at m cs o ∷ outcomes m (kept_at t.states new o) (commands rest))
goes_unless m t new rest cs None closed = goes_to m t new cs rest closed
goes_unless m t new rest cs (Some c) closed = refuses_to m t (Clashes c.at (code_at m.base m.text c.at (size c.old)) (spelled c.old c.at)) rest closed

goes_after : (m : Module) (t : Switching) (rest : List ScriptStep) (after : Result States CountRefused) → t.opened ≡ None → ends (said_begun (t.updates + 1) (beginning_to m (clash_of_foreign m) t.states after)) ++ to_end m (begun (record t { steps = rest }) (beginning_to m (clash_of_foreign m) t.states after)) ≡ numbered (t.updates + 1) (ending_to m t.states after ∷ outcomes m (settled_to m t.states after) (commands rest))
goes_after m t rest (Err why) closed = refuses_to m t _ rest closed
goes_after m t rest (Ok new) closed = goes_unless m t new rest (changes m t.states new) (first_foreign m (changes m t.states new)) closed

begin_goes : (m : Module) (t : Switching) (steps : List ScriptStep) → t.steps ≡ steps → t.opened ≡ None → ends (said_first (t.updates + 1) steps (switching.found m t steps)) ++ to_end m (begun_by (record t { steps = drop 1 steps }) (switching.found m t steps)) ≡ of_steps m t.updates t.states steps
begin_goes m t [] is closed = ap (λ (o : Option (List Change)). of_opened t.updates o (of_steps m t.updates t.states [])) closed
begin_goes m t (step.Update command ∷ rest) is closed = goes_after m t rest (key.after t.states command) closed
begin_goes m t (step.Run turns ∷ rest) is closed = ap (λ (o : Option (List Change)). of_opened t.updates o (of_steps m t.updates t.states rest)) closed
begin_goes m t (step.Drop place ∷ rest) is closed = ap (λ (o : Option (List Change)). of_opened t.updates o (of_steps m t.updates t.states rest)) closed

return_goes : (m : Module) (t : Switching) (o : Option (List Change)) → t.opened ≡ o → ends (switching.said_return t.updates o) ++ to_end m (returned t o) ≡ of_opened t.updates o (of_steps m t.updates t.states t.steps)
return_goes m t None is = ap (λ (o : Option (List Change)). of_opened t.updates o (of_steps m t.updates t.states t.steps)) is
return_goes m t (Some cs) is = refl

fetch_goes : (m : Module) (t : Switching) (d : ℕ) (bytes : List ℕ) (stop : Bool) → ends (if stop then [] else of_proc (slice_get t.procs d) (λ p. said_pass d (pass_of t p.ip bytes) p)) ++ to_end m (if stop then t else at_proc (slice_get t.procs d) t (λ p. passes t d (pass_of t p.ip bytes) p)) ≡ to_end m t
fetch_goes m t d bytes true = refl
fetch_goes m t d bytes false =
    quiet m t (at_proc (slice_get t.procs d) t (λ p. passes t d (pass_of t p.ip bytes) p)) (of_proc (slice_get t.procs d) (λ p. said_pass d (pass_of t p.ip bytes) p))
    (proc_ends (slice_get t.procs d) (λ p. said_pass d (pass_of t p.ip bytes) p) (λ p. pass_ends d (pass_of t p.ip bytes) p))
    (proc_same m t (slice_get t.procs d) (λ p. passes t d (pass_of t p.ip bytes) p) (λ p. refl))

goes_on : (m : Module) (t : Switching) (e : Event) → Needs m t e → GoesOn m t e
goes_on m t Begin needs =
    begin_goes m t t.steps refl needs.closed ∙ ap (λ (o : Option (List Change)). of_opened t.updates o (of_steps m t.updates t.states t.steps)) (sym needs.closed)
goes_on m t Write needs = refl
goes_on m t Request needs = refl
goes_on m t (Take c) needs = refl
goes_on m t Return needs = return_goes m t t.opened refl
goes_on m t (Plain c) needs =
    quiet m t (at_proc (slice_get t.procs c) t (λ p. with_proc t c (plain_done (plain_at m p.ip) p))) (of_proc (slice_get t.procs c) (λ p. said_done c (plain_at m p.ip) p))
    (proc_ends (slice_get t.procs c) (λ p. said_done c (plain_at m p.ip) p) (λ p. done_ends c (plain_at m p.ip) p))
    (proc_same m t (slice_get t.procs c) (λ p. with_proc t c (plain_done (plain_at m p.ip) p)) (λ p. refl))
goes_on m t (At c bytes) needs = fetch_goes m t c bytes.items (is_breakpoint bytes.items)
goes_on m t (Handle c) needs =
    quiet m t (at_proc (slice_get t.procs c) t (λ p. passes t c (new_pass (change_at t.opened p.ip)) p)) (of_proc (slice_get t.procs c) (λ p. said_pass c (new_pass (change_at t.opened p.ip)) p))
    (proc_ends (slice_get t.procs c) (λ p. said_pass c (new_pass (change_at t.opened p.ip)) p) (λ p. pass_ends c (new_pass (change_at t.opened p.ip)) p))
    (proc_same m t (slice_get t.procs c) (λ p. passes t c (new_pass (change_at t.opened p.ip)) p) (λ p. refl))
goes_on m t (Tick c) needs = refl

-- over a journal
all_on : (m : Module) (t : Switching) (events : List Event) → switching.IsDefined m t events → ends (switching.lines m t events) ++ to_end m (switching.after m t events) ≡ to_end m t
all_on m t [] defined = refl
all_on m t (e ∷ events) defined =
    let first_lines = switching.said m t e in
    let rest_lines = switching.lines m (switching.next m t e) events in
    let last = to_end m (switching.after m (switching.next m t e) events) in
    ap (λ (xs : List (ℕ × Ending)). xs ++ last) (flat_map-append end_of first_lines rest_lines)
    ∙ append_assoc (ends first_lines) (ends rest_lines) last
    ∙ ap (λ (xs : List (ℕ × Ending)). ends first_lines ++ xs) (all_on m (switching.next m t e) events defined.1)
    ∙ goes_on m t e defined.0

-- `run` lines have no commands
runs_none : (steps : List ScriptStep) → commands (without_runs steps) ≡ commands steps
runs_none [] = refl
runs_none (step.Update command ∷ steps) = ap (λ (cs : List Command). command ∷ cs) (runs_none steps)
runs_none (step.Run turns ∷ steps) = runs_none steps
runs_none (step.Drop place ∷ steps) = runs_none steps

pub endings : EndingsAreOutcomes
endings m script events accepted is legal =
    let t = switching.first m script in
    let over = traces_switched m script events accepted is legal.so_far in
    let done = journals_done m script events accepted is legal in
    let last = switching.after m t events in
    let nothing : to_end m last ≡ [] =
    ap (λ (o : Option (List Change)). of_opened last.updates o (of_steps m last.updates last.states last.steps)) done.closed
    ∙ ap (λ (steps : List ScriptStep). of_steps m last.updates last.states steps) done.steps in
    ap ends over.same
    ∙ sym (append-nil (ends (switching.lines m t events)))
    ∙ ap (λ (xs : List (ℕ × Ending)). ends (switching.lines m t events) ++ xs) (sym nothing)
    ∙ all_on m t events over.defined
    ∙ ap (λ (cs : List Command). numbered 1 (outcomes m (first_states m) cs)) (runs_none script.steps)
