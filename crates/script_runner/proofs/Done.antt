-- Each event as it is done: what it does, and that the machine is one again.
use Rattle.std.proofs.Common.{◌≡◌, ◌∙◌, ◌+◌, ◌≤◌, ℕ, min, Bool, if◌then◌else◌, List, [], ◌∷◌, length, drop, get_or, Option, Some, None, IfSome, slice_get, slice_set, refl, sym, ap, subst, arith}
use Rattle.std.proofs.lemmas.List.{length-set}
use Rattle.std.proofs.lemmas.Option.{get_or_from_slice_get}
use Rattle.cpu_core.specs.Turn.{CpuState, at_turn, handled_turn, plain_answer, plain_here, plain_serialises, plain_turn}
use Rattle.int3_handler.specs.declared.handler.Handled.{Handled}
use Rattle.key_state.specs.Outcome.{Returns}
use Rattle.key_state.specs.OutcomeLine.{outcome_line}
use Rattle.module_parts.specs.declared.command.Command.{Command}
use Rattle.module_image.specs.Module.{Module, States}
use Rattle.poke_batch.specs.declared.batch.Due.TheVariants as due
use Rattle.poke_batch.specs.Walk.{BatchState, Walk, due_of, moved, taken}
use Rattle.run_journal.specs.declared.event.Event.{Event}
use Rattle.run_journal.specs.declared.event.Event.TheVariants.{Begin, Write, Request, Take, Return, Plain, At, Handle, Tick}
use Rattle.script_text.specs.declared.script.ScriptStep.{ScriptStep}
use Rattle.script_text.specs.declared.script.ScriptStep.TheVariants as step
use Rattle.stale_fetch.specs.Past.{Past, with_serialised, with_write}
use Rattle.stale_fetch.specs.Windows.{WindowState, IsWindowsOf}
use Rattle.switching.specs.Choice.{most_idle}
use Rattle.switching.specs.Next.{taken_by}
use Rattle.switching.specs.Said.{said_begun, said_handled, said_handler, said_plain, said_site, said_stepped}
use Rattle.switching.specs.State.{Cpu, State}
use Rattle.x64_subset.specs.declared.insn.Insn.{Insn}
use Rattle.x64_subset.specs.declared.proc.Life.{Life}
use Rattle.x64_subset.specs.declared.proc.Proc.{Proc}
use Rattle.x64_subset.specs.Effect.{does}
use Rattle.cpu_core.specs.declared.turn.Stepped.{Stepped}
use Rattle.script_runner.specs.declared.acted.Acted.{Acted}
use Rattle.script_runner.specs.declared.acted.Acted.TheVariants as acted
use Rattle.script_runner.specs.declared.progress.Progress.{Progress}
use Rattle.script_runner.specs.declared.updater.Begun.{Begun}
use Rattle.script_runner.specs.Operations.{operations, operations_of}
use Rattle.script_runner.specs.Steps.{front}
use Rattle.script_runner.specs.TraceText.{drop_line, trace_text}
use Rattle.script_runner.specs.Turns.{IsUsed, progress_of}
use Rattle.script_runner.specs.Updating.{begun_lines, finds, is_ended, states_begun, update_begun}
use Rattle.script_runner.specs.World.{Does, IsWorld, MayCome, StandsFor, WorldSeen, left}
use Rattle.script_runner.proofs.Acting.{mark_acts}
use Rattle.script_runner.proofs.Reaching.{Keeps, world_next}
use Rattle.script_runner.proofs.Turning.{said_handler_is, said_plain_is, said_site_is, stands_handler, stands_plain, stands_site, stands_tick, turned}
use Rattle.script_runner.proofs.Updates.{HasChanges, begun_world, does_begun, does_dropped, does_requested, does_returned, does_took, does_wrote, dropped_world, moved_is, place_shown, requested_world, returned_world, took_world, wrote_world}
use Rattle.script_runner.proofs.WorldFacts.{closed_begin, cpu_known, front_more, may_here, some_update}

pub record Done (u : WorldSeen) (e : Event) (v : WorldSeen) (text : List ℕ) (acted : Acted) : Type 0 where
  pub does : Does u e v text acted
  pub world : IsWorld v

finish : (w u v : WorldSeen) (e : Event) (text : List ℕ) (what : Acted) → w ≡ u → IsWorld w → MayCome u e → Does w e v text what → Keeps w v → Done u e v text what
finish w u v e text what same h may does keeps = record {
  does = subst (λ (x : WorldSeen). Does x e v text what) same does;
  world = world_next w v e text what h (may_here w u e same may) does keeps;
}

-- ---- the events of an update

pub wrote_done : (w u : WorldSeen) (text : WindowState) (batch : BatchState) (at byte : ℕ) → w ≡ u → IsWorld w → MayCome u Write → due.Write at byte ≡ due_of w.batch.update → ((p : Past) → IsWindowsOf w.text p → IsWindowsOf text (with_write p at byte)) → IfSome w.batch.update (λ walk. batch ≡ record w.batch { update = moved walk }) → batch.sites ≡ w.batch.sites → batch.cpus ≡ w.batch.cpus → Done u Write (wrote_world w text batch) [] acted.Plain
wrote_done w u text batch at byte same h may is text_is step sites cpus =
    finish w u (wrote_world w text batch) Write [] acted.Plain same h may
    (does_wrote w text batch at byte (sym is) text_is (moved_is w.batch.update w.batch batch refl (some_update w.batch.update (due.Write at byte) (sym is) (λ e. cc)) step))
    (record { room = refl; sites = sites; batch_cpus = cpus; cpus = refl; place = h.place; idle = omega arith })

pub requested_done : (w u : WorldSeen) (batch : BatchState) → w ≡ u → IsWorld w → MayCome u Request → IfSome w.batch.update (λ walk. batch ≡ record w.batch { update = moved walk }) → batch.sites ≡ w.batch.sites → batch.cpus ≡ w.batch.cpus → Done u Request (requested_world w batch) [] acted.Plain
requested_done w u batch same h may step sites cpus =
    let is : due_of w.batch.update ≡ due.Request = ap due_of h.stands.opened ∙ may_here w u Request same may h.state h.stands in
    finish w u (requested_world w batch) Request [] acted.Plain same h may
    (does_requested w batch (moved_is w.batch.update w.batch batch refl (some_update w.batch.update due.Request is (λ e. cc)) step))
    (record { room = refl; sites = sites; batch_cpus = cpus; cpus = refl; place = h.place; idle = omega arith })

taken_is : (c : ℕ) (o : Option Walk) (batch new : BatchState) → batch.update ≡ o → (o ≡ None → ⊥) → IfSome batch.update (λ walk. new ≡ record batch { update = Some (taken c walk) }) → new.update ≡ taken_by c o
taken_is c None batch new is some step = absurd (some refl)
taken_is c (Some walk) batch new is some step =
    let told : new ≡ record batch { update = Some (taken c walk) } = subst (λ (o : Option Walk). IfSome o (λ walk. new ≡ record batch { update = Some (taken c walk) })) is step in
    ap (λ (b : BatchState). b.update) told

pub took_done : (w u : WorldSeen) (c : ℕ) (text : WindowState) (batch : BatchState) → w ≡ u → IsWorld w → MayCome u (Take c) → ((p : Past) → IsWindowsOf w.text p → IsWindowsOf text (with_serialised p c)) → IfSome w.batch.update (λ walk. batch ≡ record w.batch { update = Some (taken c walk) }) → batch.sites ≡ w.batch.sites → batch.cpus ≡ w.batch.cpus → Done u (Take c) (took_world w text batch) [] acted.Plain
took_done w u c text batch same h may text_is step sites cpus =
    let told = may_here w u (Take c) same may h.state h.stands in
    let is : due_of w.batch.update ≡ due.Wait = ap due_of h.stands.opened ∙ told.waits in
    finish w u (took_world w text batch) (Take c) [] acted.Plain same h may
    (does_took w c told.cpu.state text batch (cpu_known w h.state c told.cpu h.stands told.here) text_is (taken_is c w.batch.update w.batch batch refl (some_update w.batch.update due.Wait is (λ e. cc)) step))
    (record { room = refl; sites = sites; batch_cpus = cpus; cpus = refl; place = h.place; idle = omega arith })

pub returned_done : (w u : WorldSeen) (batch : BatchState) (progress : Progress) (steps : List ScriptStep) (line : List ℕ) → w ≡ u → IsWorld w → MayCome u Return → IfSome w.batch.update (λ walk. batch ≡ record w.batch { update = moved walk }) → batch.sites ≡ w.batch.sites → batch.cpus ≡ w.batch.cpus → steps ≡ w.script.steps → drop progress.place steps ≡ drop 1 (drop w.place steps) → progress.turns ≡ w.turns → progress.place ≤ length steps → line ≡ outcome_line w.updates (Returns w.sites) → Done u Return (record (returned_world w batch progress.place) { turns = progress.turns }) line acted.Plain
returned_done w u batch progress steps line same h may step sites cpus steps_are passed turns within line_is =
    let is : due_of w.batch.update ≡ due.Return = ap due_of h.stands.opened ∙ may_here w u Return same may h.state h.stands in
    let script : drop progress.place w.script.steps ≡ drop 1 (left w) = subst (λ (xs : List ScriptStep). drop progress.place xs ≡ drop 1 (drop w.place xs)) steps_are passed in
    let long : length steps ≡ length w.script.steps = ap length steps_are in
    let does = does_returned w batch progress.place line (moved_is w.batch.update w.batch batch refl (some_update w.batch.update due.Return is (λ e. cc)) step) script (some_update w.batch.update due.Return is (λ e. cc)) line_is in
    finish w u (record (returned_world w batch progress.place) { turns = progress.turns }) Return line acted.Plain same h may
    (subst (λ (n : ℕ). Does w Return (record (returned_world w batch progress.place) { turns = n }) line acted.Plain) (sym turns) does)
    (record { room = refl; sites = sites; batch_cpus = cpus; cpus = refl; place = omega (arith, within, long); idle = omega arith })

pub begun_done : (w u : WorldSeen) (states : States) (room sites : ℕ) (batch : BatchState) (updates : ℕ) (progress : Progress) (steps : List ScriptStep) (command : Command) (shown : Begun) (ended : Bool) (line : List ℕ) → w ≡ u → IsWorld w → MayCome u Begin → front (left w) ≡ Some (step.Update command) → steps ≡ w.script.steps → states ≡ states_begun w.states (finds w.image w.text w.states command) → batch ≡ record w.batch { update = update_begun w.batch.cpus (finds w.image w.text w.states command) } → HasChanges sites batch.update → room ≡ w.room → updates ≡ w.updates + 1 → ((n : ℕ) → begun_lines n shown ≡ said_begun n (finds w.image w.text w.states command)) → ended ≡ is_ended shown → drop progress.place steps ≡ (if ended then drop 1 (drop w.place steps) else drop w.place steps) → progress.turns ≡ w.turns → progress.place ≤ length steps → line ≡ trace_text (begun_lines updates shown) → Done u Begin (record (begun_world w states sites batch updates progress.place) { turns = progress.turns; room = room }) line acted.Plain
begun_done w u states room sites batch updates progress steps command shown ended line same h may front_is steps_are states_is batch_is list room_is count said_are ended_is passed turns within line_is =
    let is : left w ≡ step.Update command ∷ drop 1 (left w) = front_more (left w) (step.Update command) front_is in
    let closed = closed_begin w h (may_here w u Begin same may) in
    let update_is : batch.update ≡ update_begun (length w.cpus) (finds w.image w.text w.states command) = ap (λ (b : BatchState). b.update) batch_is ∙ ap (λ (n : ℕ). update_begun n (finds w.image w.text w.states command)) h.batch_cpus in
    let script = place_shown w.script.steps (left w) progress.place shown (finds w.image w.text w.states command) (said_are 0) (subst (λ (b : Bool). drop progress.place w.script.steps ≡ (if b then drop 1 (left w) else left w)) ended_is (subst (λ (xs : List ScriptStep). drop progress.place xs ≡ (if ended then drop 1 (drop w.place xs) else drop w.place xs)) steps_are passed)) in
    let long : length steps ≡ length w.script.steps = ap length steps_are in
    let does = does_begun w states sites batch updates progress.place command (drop 1 (left w)) shown line is closed states_is update_is list count script (said_are updates) line_is in
    subst (λ (n : ℕ). Done u Begin (record (begun_world w states sites batch updates progress.place) { turns = progress.turns; room = n }) line acted.Plain) (sym room_is)
    (finish w u (record (begun_world w states sites batch updates progress.place) { turns = progress.turns }) Begin line acted.Plain same h may
    (subst (λ (n : ℕ). Does w Begin (record (begun_world w states sites batch updates progress.place) { turns = n }) line acted.Plain) (sym turns) does)
    (record { room = refl; sites = ap (λ (b : BatchState). b.sites) batch_is; batch_cpus = ap (λ (b : BatchState). b.cpus) batch_is; cpus = refl; place = omega (arith, within, long); idle = omega arith }))

pub dropped_done : (w u : WorldSeen) (progress : Progress) (steps : List ScriptStep) (tracer : ℕ) (line : List ℕ) → w ≡ u → IsWorld w → MayCome u Begin → front (left w) ≡ Some (step.Drop tracer) → steps ≡ w.script.steps → drop progress.place steps ≡ drop 1 (drop w.place steps) → progress.turns ≡ w.turns → progress.place ≤ length steps → line ≡ drop_line tracer → Done u Begin (record (dropped_world w progress.place) { turns = progress.turns }) line (acted.Drop tracer)
dropped_done w u progress steps tracer line same h may front_is steps_are passed turns within line_is =
    let is : left w ≡ step.Drop tracer ∷ drop 1 (left w) = front_more (left w) (step.Drop tracer) front_is in
    let script : drop progress.place w.script.steps ≡ drop 1 (left w) = subst (λ (xs : List ScriptStep). drop progress.place xs ≡ drop 1 (drop w.place xs)) steps_are passed in
    let long : length steps ≡ length w.script.steps = ap length steps_are in
    let does = does_dropped w progress.place tracer (drop 1 (left w)) line is script line_is in
    finish w u (record (dropped_world w progress.place) { turns = progress.turns }) Begin line (acted.Drop tracer) same h may
    (subst (λ (n : ℕ). Does w Begin (record (dropped_world w progress.place) { turns = n }) line (acted.Drop tracer)) (sym turns) does)
    (record { room = refl; sites = refl; batch_cpus = refl; cpus = refl; place = omega (arith, within, long); idle = omega arith })

-- ---- the turns of processors

-- the world after a turn, as its parts were found
abbrev pub turned_with : WorldSeen → ℕ → CpuState → Progress → WindowState → ℕ → WorldSeen
turned_with w i y progress text idle = record w { place = progress.place; turns = progress.turns; text = text; cpus = slice_set w.cpus i y; idle = idle }

turned_is : (w : WorldSeen) (c i : ℕ) (x y : CpuState) (progress : Progress) (text : WindowState) (idle : ℕ) → i ≡ c → y ≡ x → idle ≡ min (w.idle + 1) most_idle → turned w c x progress text ≡ turned_with w i y progress text idle
turned_is w c i x y progress text idle place state rest =
    ap (λ (n : ℕ). turned_with w n x progress text (min (w.idle + 1) most_idle)) (sym place)
    ∙ ap (λ (z : CpuState). turned_with w i z progress text (min (w.idle + 1) most_idle)) (sym state)
    ∙ ap (λ (n : ℕ). turned_with w i y progress text n) (sym rest)

least : (a b : ℕ) → min a b ≤ b
least a b = omega arith

-- a processor that has a turn, by the place at which it was found
there_is : (w : WorldSeen) (c i : ℕ) (p : Cpu) (x d : CpuState) → IsWorld w → (s : State) → StandsFor w s → slice_get s.cpus c ≡ Some p → i ≡ c → x ≡ get_or w.cpus i d → slice_get w.cpus c ≡ Some x
there_is w c i p x d h s stands here place is =
    let found = cpu_known w s c p stands here in
    found ∙ ap Some (sym (is ∙ ap (λ (n : ℕ). get_or w.cpus n d) place ∙ get_or_from_slice_get w.cpus c p.state d found))

turn_keeps : (w : WorldSeen) (c : ℕ) (x : CpuState) (progress : Progress) (text : WindowState) → IsWorld w → progress.place ≤ length w.script.steps → Keeps w (turned w c x progress text)
turn_keeps w c x progress text h within =
    record { room = refl; sites = refl; batch_cpus = refl; cpus = length-set w.cpus c x; place = within; idle = least (w.idle + 1) most_idle }

used_here : (w u : WorldSeen) (progress : Progress) → w ≡ u → IsUsed u.batch.update (progress_of u) u.script.steps progress → IsUsed w.batch.update (progress_of w) w.script.steps progress
used_here w u progress same is = subst (λ (v : WorldSeen). IsUsed v.batch.update (progress_of v) v.script.steps progress) (sym same) is

within_here : (w u : WorldSeen) (n : ℕ) → w ≡ u → n ≤ length u.script.steps → n ≤ length w.script.steps
within_here w u n same is = subst (λ (v : WorldSeen). n ≤ length v.script.steps) (sym same) is

pub plain_done : (w u : WorldSeen) (c i : ℕ) (x y d : CpuState) (progress : Progress) (text : WindowState) (idle : ℕ) (line : List ℕ) → w ≡ u → IsWorld w → MayCome u (Plain c) → i ≡ c → x ≡ get_or w.cpus i d → y ≡ plain_turn w.image x → idle ≡ min (w.idle + 1) most_idle → IsUsed u.batch.update (progress_of u) u.script.steps progress → progress.place ≤ length u.script.steps → ((p : Past) → IsWindowsOf w.text p → IsWindowsOf text (if plain_serialises (plain_here w.image x) then with_serialised p c else p)) → line ≡ trace_text (said_plain w.image c x) → Done u (Plain c) (turned_with w i y progress text idle) line acted.Plain
plain_done w u c i x y d progress text idle line same h may place is turn rest used_is within text_is line_is =
    let told = may_here w u (Plain c) same may h.state h.stands in
    let here = there_is w c i told.cpu x d h h.state h.stands told.here place is in
    let used_w = used_here w u progress same used_is in
    subst (λ (v : WorldSeen). Done u (Plain c) v line acted.Plain) (turned_is w c i (plain_turn w.image x) y progress text idle place turn rest)
    (finish w u (turned w c (plain_turn w.image x) progress text) (Plain c) line acted.Plain same h may
    (record {
      image = refl;
      script = refl;
      idle = refl;
      stands = stands_plain w c x progress text here used_w text_is;
      text_is = λ s stands. line_is ∙ ap trace_text (sym (said_plain_is w c x progress text here used_w s stands));
      acted_is = λ s stands. sym (plain_acts x) ∙ ap (operations w.image) (sym (said_plain_is w c x progress text here used_w s stands));
    })
    (turn_keeps w c (plain_turn w.image x) progress text h (within_here w u progress.place same within)))
  where
    plain_acts : (z : CpuState) → operations w.image (said_plain w.image c z) ≡ []
    plain_acts z = by (plain_here w.image z)
      where
        by : (o : Option (Insn × ℕ)) → operations w.image (said_stepped c (plain_turn w.image z).proc.life (plain_answer o z.proc)) ≡ []
        by None = refl
        by (Some (insn, len)) = mark_acts w.image c (plain_turn w.image z).proc.life (does insn len z.proc).1

pub site_done : (w u : WorldSeen) (c i : ℕ) (bytes : List ℕ) (x y d : CpuState) (progress : Progress) (idle : ℕ) (line : List ℕ) (what : Acted) → w ≡ u → IsWorld w → MayCome u (At c (record { items = bytes })) → i ≡ c → x ≡ get_or w.cpus i d → y ≡ at_turn bytes x → idle ≡ min (w.idle + 1) most_idle → IsUsed u.batch.update (progress_of u) u.script.steps progress → progress.place ≤ length u.script.steps → line ≡ trace_text (said_site c bytes x) → operations_of what ≡ operations w.image (said_site c bytes x) → Done u (At c (record { items = bytes })) (turned_with w i y progress w.text idle) line what
site_done w u c i bytes x y d progress idle line what same h may place is turn rest used_is within line_is what_is =
    let told = may_here w u (At c (record { items = bytes })) same may h.state h.stands in
    let here = there_is w c i told.turn.cpu x d h h.state h.stands told.turn.here place is in
    let used_w = used_here w u progress same used_is in
    subst (λ (v : WorldSeen). Done u (At c (record { items = bytes })) v line what) (turned_is w c i (at_turn bytes x) y progress w.text idle place turn rest)
    (finish w u (turned w c (at_turn bytes x) progress w.text) (At c (record { items = bytes })) line what same h may
    (record {
      image = refl;
      script = refl;
      idle = refl;
      stands = stands_site w c x progress w.text here used_w bytes (λ p stands. stands);
      text_is = λ s stands. line_is ∙ ap trace_text (sym (said_site_is w c x progress w.text here used_w bytes s stands));
      acted_is = λ s stands. what_is ∙ ap (operations w.image) (sym (said_site_is w c x progress w.text here used_w bytes s stands));
    })
    (turn_keeps w c (at_turn bytes x) progress w.text h (within_here w u progress.place same within)))

pub handled_done : (w u : WorldSeen) (c i : ℕ) (x y d : CpuState) (progress : Progress) (text : WindowState) (idle : ℕ) (line : List ℕ) (what : Acted) → w ≡ u → IsWorld w → MayCome u (Handle c) → i ≡ c → x ≡ get_or w.cpus i d → y ≡ handled_turn w.batch.update x → idle ≡ min (w.idle + 1) most_idle → IsUsed u.batch.update (progress_of u) u.script.steps progress → progress.place ≤ length u.script.steps → ((p : Past) → IsWindowsOf w.text p → IsWindowsOf text (with_serialised p c)) → line ≡ trace_text (said_handler w.batch.update c x) → operations_of what ≡ operations w.image (said_handler w.batch.update c x) → Done u (Handle c) (turned_with w i y progress text idle) line what
handled_done w u c i x y d progress text idle line what same h may place is turn rest used_is within text_is line_is what_is =
    let told = may_here w u (Handle c) same may h.state h.stands in
    let here = there_is w c i told.cpu x d h h.state h.stands told.here place is in
    let used_w = used_here w u progress same used_is in
    subst (λ (v : WorldSeen). Done u (Handle c) v line what) (turned_is w c i (handled_turn w.batch.update x) y progress text idle place turn rest)
    (finish w u (turned w c (handled_turn w.batch.update x) progress text) (Handle c) line what same h may
    (record {
      image = refl;
      script = refl;
      idle = refl;
      stands = stands_handler w c x progress text here used_w text_is;
      text_is = λ s stands. line_is ∙ ap trace_text (sym (said_handler_is w c x progress text here used_w s stands));
      acted_is = λ s stands. what_is ∙ ap (operations w.image) (sym (said_handler_is w c x progress text here used_w s stands));
    })
    (turn_keeps w c (handled_turn w.batch.update x) progress text h (within_here w u progress.place same within)))

pub ticked_done : (w u : WorldSeen) (c : ℕ) (progress : Progress) (idle : ℕ) → w ≡ u → IsWorld w → MayCome u (Tick c) → idle ≡ min (w.idle + 1) most_idle → IsUsed u.batch.update (progress_of u) u.script.steps progress → progress.place ≤ length u.script.steps → Done u (Tick c) (record w { place = progress.place; turns = progress.turns; idle = idle }) [] acted.Plain
ticked_done w u c progress idle same h may rest used_is within =
    subst (λ (n : ℕ). Done u (Tick c) (record w { place = progress.place; turns = progress.turns; idle = n }) [] acted.Plain) (sym rest)
    (finish w u (record w { place = progress.place; turns = progress.turns; idle = min (w.idle + 1) most_idle }) (Tick c) [] acted.Plain same h may
    (record {
      image = refl;
      script = refl;
      idle = refl;
      stands = stands_tick w progress (used_here w u progress same used_is);
      text_is = λ s stands. refl;
      acted_is = λ s stands. refl;
    })
    (record { room = refl; sites = refl; batch_cpus = refl; cpus = refl; place = within_here w u progress.place same within; idle = least (w.idle + 1) most_idle }))

-- ---- the lines, and what tracers see, by what the calls answered

pub front_here : (place : ℕ) (steps all : List ScriptStep) (step : ScriptStep) → steps ≡ all → front (drop place steps) ≡ Some step → front (drop place all) ≡ Some step
front_here place steps all step same is = subst (λ (xs : List ScriptStep). front (drop place xs) ≡ Some step) same is

pub stepped_line : (c : ℕ) (line : List ℕ) (p : Proc) (y t : CpuState) (r q : Stepped) → p ≡ y.proc → y ≡ t → r ≡ q → line ≡ trace_text (said_stepped c p.life r) → line ≡ trace_text (said_stepped c t.proc.life q)
stepped_line c line p y t r q proc state what is =
    is ∙ ap (λ (x : Proc). trace_text (said_stepped c x.life r)) (proc ∙ ap (λ (z : CpuState). z.proc) state) ∙ ap (λ (x : Stepped). trace_text (said_stepped c t.proc.life x)) what

pub handled_line : (c : ℕ) (line : List ℕ) (p : Proc) (y t : CpuState) (r q : Handled) → p ≡ y.proc → y ≡ t → r ≡ q → line ≡ trace_text (said_handled c p.life r) → line ≡ trace_text (said_handled c t.proc.life q)
handled_line c line p y t r q proc state what is =
    is ∙ ap (λ (x : Proc). trace_text (said_handled c x.life r)) (proc ∙ ap (λ (z : CpuState). z.proc) state) ∙ ap (λ (x : Handled). trace_text (said_handled c t.proc.life x)) what

pub stepped_acts : (m : Module) (c : ℕ) (life : Life) (a : Acted) (r q : Stepped) → r ≡ q → ((l : Life) → operations_of a ≡ operations m (said_stepped c l r)) → operations_of a ≡ operations m (said_stepped c life q)
stepped_acts m c life a r q what is = is life ∙ ap (λ (x : Stepped). operations m (said_stepped c life x)) what

pub handled_acts : (m : Module) (c : ℕ) (life : Life) (a : Acted) (r q : Handled) → r ≡ q → ((l : Life) → operations_of a ≡ operations m (said_handled c l r)) → operations_of a ≡ operations m (said_handled c life q)
handled_acts m c life a r q what is = is life ∙ ap (λ (x : Handled). operations m (said_handled c life x)) what
