-- The events of an update: its beginning, a write, a request, the request taken, its return.
use Rattle.std.proofs.Common.{◌≡◌, ◌∙◌, ◌+◌, ℕ, zero, suc, Bool, true, false, if◌then◌else◌, List, [], ◌∷◌, length, drop, Option, Some, None, IfSome, slice_get, slice_set, refl, sym, ap, subst}
use Rattle.std.specs.List.{list_all}
use Rattle.cpu_core.specs.Turn.{CpuState}
use Rattle.insn_forms.specs.declared.forms.Change.{Change}
use Rattle.key_state.specs.Outcome.{Returns}
use Rattle.key_state.specs.OutcomeLine.{outcome_line}
use Rattle.module_parts.specs.declared.command.Command.{Command}
use Rattle.module_image.specs.Module.{Module, States}
use Rattle.poke_batch.specs.declared.batch.Due.{Due}
use Rattle.poke_batch.specs.declared.batch.Due.TheVariants as due
use Rattle.poke_batch.specs.Poke.{Item}
use Rattle.poke_batch.specs.Poke.Item.{Puts, Syncs}
use Rattle.poke_batch.specs.Walk.{BatchState, Walk, due_of, moved, moved_at, next_phase, opened, passed, taken}
use Rattle.run_journal.specs.declared.event.Event.TheVariants.{Begin, Write, Request, Take, Return}
use Rattle.script_text.specs.declared.script.ScriptStep.{ScriptStep}
use Rattle.script_text.specs.declared.script.ScriptStep.TheVariants as step
use Rattle.stale_fetch.specs.Past.{Past, with_serialised, with_write}
use Rattle.stale_fetch.specs.Windows.{WindowState, IsWindowsOf, window_held}
use Rattle.switching.specs.Beginning.{Beginning, Goes, Refuses, beginning, clash_of_bytes}
use Rattle.switching.specs.Next as machine
use Rattle.switching.specs.Next.{at_cpu, begun_by, found, moved_on, next, taken_by, took, wrote}
use Rattle.switching.specs.Said.{Drops, Ends, said, said_begun, said_first, said_return}
use Rattle.switching.specs.State.{Cpu, State}
use Rattle.script_runner.specs.Operations.{operations}
use Rattle.script_runner.specs.declared.acted.Acted.TheVariants as acted
use Rattle.script_runner.specs.declared.updater.Begun.{Begun}
use Rattle.script_runner.specs.declared.updater.Begun.TheVariants as begun
use Rattle.script_runner.specs.TraceText.{drop_line, trace_text}
use Rattle.script_runner.specs.Updating.{begun_lines, finds, is_ended, states_begun, update_begun}
use Rattle.script_runner.specs.World.{Does, StandsFor, WorldSeen, left, past_of}
use Rattle.script_runner.proofs.HeldBytes.{held_is}
use Rattle.script_runner.proofs.Pasts.{marks_set, past_with}
use Rattle.script_runner.proofs.Texts.{one_line}
use Rattle.script_runner.proofs.Turning.{IsThere, states_of, there}

-- an open update has so many changes
abbrev pub HasChanges : ℕ → Option Walk → Type 0
HasChanges n opened = IfSome opened (λ walk. n ≡ length walk.changes)

-- no step of an update changes them
moved_changes : (n : ℕ) (walk : Walk) (left : List Item) → n ≡ length walk.changes → HasChanges n (moved_at left walk)
moved_changes list walk [] is = tt
moved_changes list walk (Puts w ∷ left) is = is
moved_changes list walk (Syncs ∷ left) is = is

pub moved_on_changes : (n : ℕ) (o : Option Walk) → HasChanges n o → HasChanges n (moved_on o)
moved_on_changes list None is = tt
moved_on_changes list (Some walk) is = moved_changes list walk walk.left is

next_phase_changes : (left : List Item) (later : List (List Change)) (walk : Walk) → (next_phase left later walk).changes ≡ walk.changes
next_phase_changes (item ∷ left) later walk = refl
next_phase_changes [] (chunk ∷ later) walk = refl
next_phase_changes [] [] walk = refl

taken_changes : (c : ℕ) (walk : Walk) → (taken c walk).changes ≡ walk.changes
taken_changes c walk = by (list_all (λ t. t) (slice_set walk.took c true))
  where
    by : (b : Bool) → (if b then passed walk else record walk { took = slice_set walk.took c true }).changes ≡ walk.changes
    by true = next_phase_changes (drop 1 walk.left) walk.later _
    by false = refl

pub taken_by_changes : (n c : ℕ) (o : Option Walk) → HasChanges n o → HasChanges n (taken_by c o)
taken_by_changes n c None is = tt
taken_by_changes n c (Some walk) is = is ∙ ap length (sym (taken_changes c walk))

-- an update that moves on
pub moved_is : (o : Option Walk) (batch : BatchState) (new : BatchState) → batch.update ≡ o → (o ≡ None → ⊥) → IfSome batch.update (λ walk. new ≡ record batch { update = moved walk }) → new.update ≡ moved_on o
moved_is None batch new is some step = absurd (some refl)
moved_is (Some walk) batch new is some step =
    let step : new ≡ record batch { update = moved walk } = subst (λ (o : Option Walk). IfSome o (λ walk. new ≡ record batch { update = moved walk })) is step in
    ap (λ (b : BatchState). b.update) step

-- ---- a write

-- the world after it
abbrev pub wrote_world : WorldSeen → WindowState → BatchState → WorldSeen
wrote_world w text batch = record w { text = text; batch = batch; idle = 0 }

pub stands_wrote : (w : WorldSeen) (text : WindowState) (batch : BatchState) (at byte : ℕ) → due_of w.batch.update ≡ due.Write at byte → ((p : Past) → IsWindowsOf w.text p → IsWindowsOf text (with_write p at byte)) → batch.update ≡ moved_on w.batch.update → (s : State) → StandsFor w s → StandsFor (wrote_world w text batch) (next w.image s Write)
stands_wrote w text batch at byte is text_is step s h =
    let due_is : due_of s.opened ≡ due.Write at byte = ap due_of (sym h.opened) ∙ is in
    subst (λ (d : Due). StandsFor (wrote_world w text batch) (wrote s d)) (sym due_is) (record {
      text = text_is (past_of w.image s) h.text;
      steps = h.steps;
      turns = h.turns;
      updates = h.updates;
      states = h.states;
      opened = step ∙ ap moved_on h.opened;
      sites = moved_on_changes w.sites s.opened h.sites;
      cpus = h.cpus;
    })

-- ---- a request

abbrev pub requested_world : WorldSeen → BatchState → WorldSeen
requested_world w batch = record w { batch = batch; idle = 0 }

pub stands_requested : (w : WorldSeen) (batch : BatchState) → batch.update ≡ moved_on w.batch.update → (s : State) → StandsFor w s → StandsFor (requested_world w batch) (next w.image s Request)
stands_requested w batch step s h = record {
  text = h.text;
  steps = h.steps;
  turns = h.turns;
  updates = h.updates;
  states = h.states;
  opened = step ∙ ap moved_on h.opened;
  sites = moved_on_changes w.sites s.opened h.sites;
  cpus = h.cpus;
}

-- ---- the request taken

abbrev pub took_world : WorldSeen → WindowState → BatchState → WorldSeen
took_world w text batch = record w { text = text; batch = batch; idle = 0 }

pub stands_took : (w : WorldSeen) (c : ℕ) (x : CpuState) (text : WindowState) (batch : BatchState) → slice_get w.cpus c ≡ Some x → ((p : Past) → IsWindowsOf w.text p → IsWindowsOf text (with_serialised p c)) → batch.update ≡ taken_by c w.batch.update → (s : State) → StandsFor w s → StandsFor (took_world w text batch) (next w.image s (Take c))
stands_took w c x text batch here text_is step s h =
    let t : IsThere s c x = there w s c x h here in
    let q : Cpu = record t.cpu { mark = length s.writes } in
    subst (λ (o : Option Cpu). StandsFor (took_world w text batch) (at_cpu o s (took s c))) (sym t.here) (record {
      text = subst (λ (p : Past). IsWindowsOf text p) (ap (past_with w.image s.writes) (sym (marks_set s.cpus c q))) (text_is (past_of w.image s) h.text);
      steps = h.steps;
      turns = h.turns;
      updates = h.updates;
      states = h.states;
      opened = step ∙ ap (taken_by c) h.opened;
      sites = taken_by_changes w.sites c s.opened h.sites;
      cpus = h.cpus ∙ sym (states_kept s.cpus c t.cpu q t.here refl);
    })
  where
    states_kept : (cpus : List Cpu) (c : ℕ) (p q : Cpu) → slice_get cpus c ≡ Some p → q.state ≡ p.state → states_of (slice_set cpus c q) ≡ states_of cpus
    states_kept [] c p q is same = absurd (cc)
    states_kept (r ∷ cpus) zero p q is same =
        let one : r ≡ p = cc in ap (λ (y : CpuState). y ∷ states_of cpus) (same ∙ ap (λ (z : Cpu). z.state) (sym one))
    states_kept (r ∷ cpus) (suc c) p q is same = ap (λ (ys : List CpuState). r.state ∷ ys) (states_kept cpus c p q is same)

-- ---- the return

abbrev pub returned_world : WorldSeen → BatchState → ℕ → WorldSeen
returned_world w batch place = record w { batch = batch; place = place; idle = 0 }

pub stands_returned : (w : WorldSeen) (batch : BatchState) (place : ℕ) → batch.update ≡ moved_on w.batch.update → drop place w.script.steps ≡ drop 1 (left w) → (s : State) → StandsFor w s → StandsFor (returned_world w batch place) (next w.image s Return)
stands_returned w batch place step script s h = record {
  text = h.text;
  steps = script ∙ ap (drop 1) h.steps;
  turns = h.turns;
  updates = h.updates;
  states = h.states;
  opened = step ∙ ap moved_on h.opened;
  sites = moved_on_changes w.sites s.opened h.sites;
  cpus = h.cpus;
}

return_line : (n update : ℕ) (o : Option Walk) → HasChanges n o → (o ≡ None → ⊥) → said_return update o ≡ Ends update (Returns n) ∷ []
return_line n update None is some = absurd (some refl)
return_line n update (Some walk) is some = ap (λ (k : ℕ). Ends update (Returns k) ∷ []) (sym is)

pub said_returned : (w : WorldSeen) (s : State) → StandsFor w s → (w.batch.update ≡ None → ⊥) → said w.image s Return ≡ Ends w.updates (Returns w.sites) ∷ []
said_returned w s h some =
    return_line w.sites s.updates s.opened h.sites (λ none. some (h.opened ∙ none))
    ∙ ap (λ (n : ℕ). Ends n (Returns w.sites) ∷ []) (sym h.updates)

-- ---- the beginning

-- the world after an update has begun
abbrev pub begun_world : WorldSeen → States → ℕ → BatchState → ℕ → ℕ → WorldSeen
begun_world w states sites batch updates place =
    record w { states = states; sites = sites; batch = batch; updates = updates; place = place; idle = 0 }

-- a step that is passed where the update has ended, and stays in front where it is open
abbrev pub place_begun : List ScriptStep → ℕ → List ScriptStep → Beginning → Type 0
place_begun steps place now (Refuses ending) = drop place steps ≡ drop 1 now
place_begun steps place now (Goes new []) = drop place steps ≡ drop 1 now
place_begun steps place now (Goes new (c ∷ changes)) = drop place steps ≡ now

-- it is so by what was shown
pub place_shown : (steps now : List ScriptStep) (place : ℕ) (shown : Begun) (b : Beginning) → begun_lines 0 shown ≡ said_begun 0 b → drop place steps ≡ (if is_ended shown then drop 1 now else now) → place_begun steps place now b
place_shown steps now place (begun.Ended outcome) (Refuses ending) said_are is = is
place_shown steps now place (begun.Ended outcome) (Goes new []) said_are is = is
place_shown steps now place (begun.Ended outcome) (Goes new (c ∷ changes)) said_are is = absurd (cc)
place_shown steps now place (begun.Open sites) (Refuses ending) said_are is = absurd (cc)
place_shown steps now place (begun.Open sites) (Goes new []) said_are is = absurd (cc)
place_shown steps now place (begun.Open sites) (Goes new (c ∷ changes)) said_are is = is

stands_begun_by : (w : WorldSeen) (states : States) (sites : ℕ) (batch : BatchState) (updates place : ℕ) (b : Beginning) → w.batch.update ≡ None → states ≡ states_begun w.states b → batch.update ≡ update_begun (length w.cpus) b → HasChanges sites batch.update → updates ≡ w.updates + 1 → place_begun w.script.steps place (left w) b → (s : State) → StandsFor w s → StandsFor (begun_world w states sites batch updates place) (machine.begun s (drop 1 s.steps) b)
stands_begun_by w states sites batch updates place (Refuses ending) closed states_is update_is list count script s h = record {
  text = h.text;
  steps = script ∙ ap (drop 1) h.steps;
  turns = h.turns;
  updates = count ∙ ap (λ (n : ℕ). n + 1) h.updates;
  states = states_is ∙ h.states;
  opened = update_is ∙ sym closed ∙ h.opened;
  sites = subst (λ (o : Option Walk). HasChanges sites o) (update_is ∙ sym closed ∙ h.opened) list;
  cpus = h.cpus;
}
stands_begun_by w states sites batch updates place (Goes new []) closed states_is update_is list count script s h = record {
  text = h.text;
  steps = script ∙ ap (drop 1) h.steps;
  turns = h.turns;
  updates = count ∙ ap (λ (n : ℕ). n + 1) h.updates;
  states = states_is;
  opened = update_is ∙ sym closed ∙ h.opened;
  sites = subst (λ (o : Option Walk). HasChanges sites o) (update_is ∙ sym closed ∙ h.opened) list;
  cpus = h.cpus;
}
stands_begun_by w states sites batch updates place (Goes new (c ∷ cs)) closed states_is update_is list count script s h =
    let cpus_long : length w.cpus ≡ length s.cpus = ap length h.cpus ∙ length-states s.cpus in
    let opened_is : batch.update ≡ opened (length s.cpus) (c ∷ cs) = update_is ∙ ap (λ (n : ℕ). opened n (c ∷ cs)) cpus_long in
    record {
      text = h.text;
      steps = script ∙ h.steps;
      turns = h.turns;
      updates = count ∙ ap (λ (n : ℕ). n + 1) h.updates;
      states = states_is;
      opened = opened_is;
      sites = subst (λ (o : Option Walk). HasChanges sites o) opened_is list;
      cpus = h.cpus;
    }
  where
    length-states : (cpus : List Cpu) → length (states_of cpus) ≡ length cpus
    length-states [] = refl
    length-states (p ∷ cpus) = ap suc (length-states cpus)

-- what the update in front finds
found_is : (w : WorldSeen) (s : State) (command : Command) (rest : List ScriptStep) → StandsFor w s → left w ≡ step.Update command ∷ rest → found w.image s s.steps ≡ Some (finds w.image w.text w.states command)
found_is w s command rest h is =
    ap (found w.image s) (sym h.steps ∙ is)
    ∙ ap (λ (f : ℕ → Option ℕ). Some (beginning w.image (clash_of_bytes f) s.states command)) (sym (held_is w s h))
    ∙ ap (λ (states : States). Some (beginning w.image (clash_of_bytes (window_held w.text)) states command)) (sym h.states)

pub stands_begun : (w : WorldSeen) (states : States) (sites : ℕ) (batch : BatchState) (updates place : ℕ) (command : Command) (rest : List ScriptStep) → left w ≡ step.Update command ∷ rest → w.batch.update ≡ None → states ≡ states_begun w.states (finds w.image w.text w.states command) → batch.update ≡ update_begun (length w.cpus) (finds w.image w.text w.states command) → HasChanges sites batch.update → updates ≡ w.updates + 1 → place_begun w.script.steps place (left w) (finds w.image w.text w.states command) → (s : State) → StandsFor w s → StandsFor (begun_world w states sites batch updates place) (next w.image s Begin)
stands_begun w states sites batch updates place command rest is closed states_is update_is list count script s h =
    subst (λ (o : Option Beginning). StandsFor (begun_world w states sites batch updates place) (begun_by s o)) (sym (found_is w s command rest h is))
    (stands_begun_by w states sites batch updates place (finds w.image w.text w.states command) closed states_is update_is list count script s h)

pub said_begun_is : (w : WorldSeen) (command : Command) (rest : List ScriptStep) → left w ≡ step.Update command ∷ rest → (s : State) → StandsFor w s → said w.image s Begin ≡ said_begun (w.updates + 1) (finds w.image w.text w.states command)
said_begun_is w command rest is s h =
    ap (said_first (s.updates + 1) s.steps) (found_is w s command rest h is)
    ∙ ap (λ (n : ℕ). said_begun (n + 1) (finds w.image w.text w.states command)) (sym h.updates)

-- a drop
abbrev pub dropped_world : WorldSeen → ℕ → WorldSeen
dropped_world w place = record w { place = place; idle = 0 }

pub stands_dropped : (w : WorldSeen) (place tracer : ℕ) (rest : List ScriptStep) → left w ≡ step.Drop tracer ∷ rest → drop place w.script.steps ≡ drop 1 (left w) → (s : State) → StandsFor w s → StandsFor (dropped_world w place) (next w.image s Begin)
stands_dropped w place tracer rest is script s h =
    subst (λ (o : Option Beginning). StandsFor (dropped_world w place) (begun_by s o)) (sym (ap (found w.image s) (sym h.steps ∙ is))) (record {
      text = h.text;
      steps = script ∙ ap (drop 1) h.steps;
      turns = h.turns;
      updates = h.updates;
      states = h.states;
      opened = h.opened;
      sites = h.sites;
      cpus = h.cpus;
    })

pub said_dropped : (w : WorldSeen) (tracer : ℕ) (rest : List ScriptStep) → left w ≡ step.Drop tracer ∷ rest → (s : State) → StandsFor w s → said w.image s Begin ≡ Drops tracer ∷ []
said_dropped w tracer rest is s h =
    ap (λ (xs : List ScriptStep). said_first (s.updates + 1) xs (found w.image s xs)) (sym h.steps ∙ is)

-- ---- what each of them does, whole

pub does_wrote : (w : WorldSeen) (text : WindowState) (batch : BatchState) (at byte : ℕ) → due_of w.batch.update ≡ due.Write at byte → ((p : Past) → IsWindowsOf w.text p → IsWindowsOf text (with_write p at byte)) → batch.update ≡ moved_on w.batch.update → Does w Write (wrote_world w text batch) [] acted.Plain
does_wrote w text batch at byte is text_is step = record {
  image = refl;
  script = refl;
  idle = refl;
  stands = stands_wrote w text batch at byte is text_is step;
  text_is = λ s h. refl;
  acted_is = λ s h. refl;
}

pub does_requested : (w : WorldSeen) (batch : BatchState) → batch.update ≡ moved_on w.batch.update → Does w Request (requested_world w batch) [] acted.Plain
does_requested w batch step = record {
  image = refl;
  script = refl;
  idle = refl;
  stands = stands_requested w batch step;
  text_is = λ s h. refl;
  acted_is = λ s h. refl;
}

pub does_took : (w : WorldSeen) (c : ℕ) (x : CpuState) (text : WindowState) (batch : BatchState) → slice_get w.cpus c ≡ Some x → ((p : Past) → IsWindowsOf w.text p → IsWindowsOf text (with_serialised p c)) → batch.update ≡ taken_by c w.batch.update → Does w (Take c) (took_world w text batch) [] acted.Plain
does_took w c x text batch here text_is step = record {
  image = refl;
  script = refl;
  idle = refl;
  stands = stands_took w c x text batch here text_is step;
  text_is = λ s h. refl;
  acted_is = λ s h. refl;
}

pub does_returned : (w : WorldSeen) (batch : BatchState) (place : ℕ) (line : List ℕ) → batch.update ≡ moved_on w.batch.update → drop place w.script.steps ≡ drop 1 (left w) → (w.batch.update ≡ None → ⊥) → line ≡ outcome_line w.updates (Returns w.sites) → Does w Return (returned_world w batch place) line acted.Plain
does_returned w batch place line step script some line_is = record {
  image = refl;
  script = refl;
  idle = refl;
  stands = stands_returned w batch place step script;
  text_is = λ s h. line_is ∙ sym (one_line (Ends w.updates (Returns w.sites))) ∙ ap trace_text (sym (said_returned w s h some));
  acted_is = λ s h. ap (operations w.image) (sym (said_returned w s h some));
}

pub does_begun : (w : WorldSeen) (states : States) (sites : ℕ) (batch : BatchState) (updates place : ℕ) (command : Command) (rest : List ScriptStep) (shown : Begun) (line : List ℕ) → left w ≡ step.Update command ∷ rest → w.batch.update ≡ None → states ≡ states_begun w.states (finds w.image w.text w.states command) → batch.update ≡ update_begun (length w.cpus) (finds w.image w.text w.states command) → HasChanges sites batch.update → updates ≡ w.updates + 1 → place_begun w.script.steps place (left w) (finds w.image w.text w.states command) → begun_lines updates shown ≡ said_begun updates (finds w.image w.text w.states command) → line ≡ trace_text (begun_lines updates shown) → Does w Begin (begun_world w states sites batch updates place) line acted.Plain
does_begun w states sites batch updates place command rest shown line is closed states_is update_is list count script said_are line_is = record {
  image = refl;
  script = refl;
  idle = refl;
  stands = stands_begun w states sites batch updates place command rest is closed states_is update_is list count script;
  text_is = λ s h. line_is ∙ ap trace_text (lines s h);
  acted_is = λ s h. sym (begun_acts w.image updates shown) ∙ ap (operations w.image) (lines s h);
}
  where
    lines : (s : State) → StandsFor w s → begun_lines updates shown ≡ said w.image s Begin
    lines s h =
        said_are ∙ ap (λ (n : ℕ). said_begun n (finds w.image w.text w.states command)) count ∙ sym (said_begun_is w command rest is s h)

    begun_acts : (m : Module) (n : ℕ) (b : Begun) → operations m (begun_lines n b) ≡ []
    begun_acts m n (begun.Ended outcome) = refl
    begun_acts m n (begun.Open sites) = refl

pub does_dropped : (w : WorldSeen) (place tracer : ℕ) (rest : List ScriptStep) (line : List ℕ) → left w ≡ step.Drop tracer ∷ rest → drop place w.script.steps ≡ drop 1 (left w) → line ≡ drop_line tracer → Does w Begin (dropped_world w place) line (acted.Drop tracer)
does_dropped w place tracer rest line is script line_is = record {
  image = refl;
  script = refl;
  idle = refl;
  stands = stands_dropped w place tracer rest is script;
  text_is = λ s h. line_is ∙ sym (one_line (Drops tracer)) ∙ ap trace_text (sym (said_dropped w tracer rest is s h));
  acted_is = λ s h. ap (operations w.image) (sym (said_dropped w tracer rest is s h));
}
