-- How many passes events show: each fetch of another instruction than a breakpoint shows one, and so does each handler.
use Rattle.std.proofs.Common.{◌≡◌, ◌∙◌, ◌&&◌, ◌==◌, ◌+◌, ℕ, Bool, true, false, not, if◌then◌else◌, List, [], ◌∷◌, Option, Some, None, slice_get, refl, ap, arith}
use Rattle.module_image.specs.Module.{Module, plain_at}
use Rattle.run_journal.specs.declared.event.Event.{Event}
use Rattle.run_journal.specs.declared.event.Event.TheVariants.{Begin, Write, Request, Take, Return, Plain, At, Handle, Tick}
use Rattle.script_text.specs.declared.script.ScriptStep.{ScriptStep}
use Rattle.script_text.specs.declared.script.ScriptStep.TheVariants as step
use Rattle.insn_forms.specs.declared.forms.Change.{Change}
use Rattle.x64_subset.specs.declared.insn.Insn.{Insn}
use Rattle.x64_subset.specs.declared.proc.Life.{Life}
use Rattle.x64_subset.specs.declared.proc.Mark.{Mark}
use Rattle.x64_subset.specs.declared.proc.Mark.TheVariants.{None as NoMark, Out, Ended}
use Rattle.x64_subset.specs.declared.proc.Proc.{Proc}
use Rattle.switching.specs.Beginning.{Beginning, Goes, Refuses}
use Rattle.switching.specs.Said.{TraceLine, said_begun, said_first, said_mark, said_step}
use Rattle.switching.specs.Switching.{Needs, NeedsAt, PassKind, Switching, change_at, found, new_pass, of_proc, pass_of, said_done, said_pass, said_return}
use Rattle.switching.specs.Switching as switching
use Rattle.bench_run.specs.Counts.{how_many, is_breakpoint, is_pass}
use Rattle.bench_run.specs.Counting.{is_passing, one_if}
use Rattle.bench_run.proofs.Counting.{how_many_append}

-- how many passes some lines are
abbrev passes : List TraceLine → ℕ
passes ls = how_many is_pass ls

-- ---- lines that are no passes

mark_none : (c : ℕ) (life : Life) (mark : Mark) → passes (said_mark c life mark) ≡ 0
mark_none c life NoMark = refl
mark_none c life (Out port value) = refl
mark_none c life Ended = refl

begun_none : (update : ℕ) (b : Beginning) → passes (said_begun update b) ≡ 0
begun_none update (Refuses ending) = refl
begun_none update (Goes new []) = refl
begun_none update (Goes new (c ∷ changes)) = refl

step_none : (steps : List ScriptStep) → passes (said_step steps) ≡ 0
step_none [] = refl
step_none (step.Update command ∷ rest) = refl
step_none (step.Run turns ∷ rest) = refl
step_none (step.Drop place ∷ rest) = refl

first_none : (update : ℕ) (steps : List ScriptStep) (o : Option Beginning) → passes (said_first update steps o) ≡ 0
first_none update steps None = step_none steps
first_none update steps (Some b) = begun_none update b

return_none : (update : ℕ) (o : Option (List Change)) → passes (said_return update o) ≡ 0
return_none update None = refl
return_none update (Some changes) = refl

done_none : (c : ℕ) (o : Option (Insn × ℕ)) (p : Proc) → passes (said_done c o p) ≡ 0
done_none c None p = refl
done_none c (Some (insn, len)) p = mark_none c _ _

proc_none : (o : Option Proc) (f : Proc → List TraceLine) → ((p : Proc) → passes (f p) ≡ 0) → passes (of_proc o f) ≡ 0
proc_none None f none = refl
proc_none (Some p) f none = none p

-- ---- one pass

pass_one : (c : ℕ) (kind : PassKind) (p : Proc) → passes (said_pass c kind p) ≡ 1
pass_one c kind p = ap (λ (n : ℕ). 1 + n) (mark_none c _ _)

proc_one : (o : Option Proc) (p : Proc) (f : Proc → List TraceLine) → o ≡ Some p → ((q : Proc) → passes (f q) ≡ 1) → passes (of_proc o f) ≡ 1
proc_one o p f is one = ap (λ (x : Option Proc). passes (of_proc x f)) is ∙ one p

-- ---- each event

and_true : (b : Bool) → (b && true) ≡ b
and_true true = refl
and_true false = refl

and_false : (b : Bool) → (b && false) ≡ false
and_false true = refl
and_false false = refl

breakpoint_same : (bytes : List ℕ) → switching.is_breakpoint bytes ≡ is_breakpoint bytes
breakpoint_same [] = refl
breakpoint_same (byte ∷ []) = and_true (byte == 0xcc)
breakpoint_same (byte ∷ more ∷ rest) = and_false (byte == 0xcc)

fetch_shows : (m : Module) (t : Switching) (c : ℕ) (bytes : List ℕ) (stop : Bool) → NeedsAt stop m t c bytes → passes (if stop then [] else of_proc (slice_get t.procs c) (λ p. said_pass c (pass_of t p.ip bytes) p)) ≡ one_if (not stop)
fetch_shows m t c bytes true needs = refl
fetch_shows m t c bytes false needs =
    proc_one (slice_get t.procs c) needs.running.proc (λ p. said_pass c (pass_of t p.ip bytes) p) needs.running.here (λ p. pass_one c (pass_of t p.ip bytes) p)

event_shows : (m : Module) (t : Switching) (e : Event) → Needs m t e → passes (switching.said m t e) ≡ one_if (is_passing e)
event_shows m t Begin needs = first_none (t.updates + 1) t.steps (found m t t.steps)
event_shows m t Write needs = refl
event_shows m t Request needs = refl
event_shows m t (Take c) needs = refl
event_shows m t Return needs = return_none t.updates t.opened
event_shows m t (Plain c) needs =
    proc_none (slice_get t.procs c) (λ p. said_done c (plain_at m p.ip) p) (λ p. done_none c (plain_at m p.ip) p)
event_shows m t (At c bytes) needs =
    fetch_shows m t c bytes.items (switching.is_breakpoint bytes.items) needs
    ∙ ap (λ (b : Bool). one_if (not b)) (breakpoint_same bytes.items)
event_shows m t (Handle c) needs =
    proc_one (slice_get t.procs c) needs.running.proc (λ p. said_pass c (new_pass (change_at t.opened p.ip)) p) needs.running.here (λ p. pass_one c (new_pass (change_at t.opened p.ip)) p)
event_shows m t (Tick c) needs = refl

-- and all of them
pub events_show : (m : Module) (t : Switching) (events : List Event) → switching.IsDefined m t events → passes (switching.lines m t events) ≡ how_many is_passing events
events_show m t [] defined = refl
events_show m t (e ∷ events) defined =
    let one = event_shows m t e defined.0 in
    let rest = events_show m (switching.next m t e) events defined.1 in
    let both = how_many_append is_pass (switching.said m t e) (switching.lines m (switching.next m t e) events) in
    omega (arith, one, rest, both)
