-- How many tracers are dropped: no more than the script has drops.
use Rattle.std.proofs.Common.{◌≡◌, ◌∙◌, ◌+◌, ◌≤◌, ◌==◌, ℕ, Bool, true, false, if◌then◌else◌, List, [], ◌∷◌, ◌++◌, length, drop, Option, Some, None, slice_get, refl, sym, ap, arith, length-append}
use Rattle.std.specs.List.{flat_map}
use Rattle.std.proofs.lemmas.Grind.{flat_map-append}
use Rattle.cpu_core.specs.declared.turn.Stepped.{Stepped}
use Rattle.cpu_core.specs.declared.turn.Stepped.TheVariants.{Plain as PlainDone, Pass, Trapped, Torn}
use Rattle.cpu_core.specs.Turn.{CpuState, at_answer, at_turn, handled_turn, plain_answer, plain_here, plain_turn}
use Rattle.int3_handler.specs.declared.handler.Handled.{Handled}
use Rattle.int3_handler.specs.declared.handler.Handled.TheVariants.{Emulated, NotOurs}
use Rattle.int3_handler.specs.Handler.{answer}
use Rattle.module_image.specs.Module.{Module}
use Rattle.poke_batch.specs.declared.batch.Due.{Due}
use Rattle.poke_batch.specs.declared.batch.Due.TheVariants as due
use Rattle.poke_batch.specs.Walk.{Walk, due_of}
use Rattle.run_journal.specs.declared.event.Event.{Event}
use Rattle.run_journal.specs.declared.event.Event.TheVariants.{Begin, Write, Request, Take, Return, Plain, At, Handle, Tick}
use Rattle.script_text.specs.declared.script.ScriptStep.{ScriptStep}
use Rattle.script_text.specs.declared.script.ScriptStep.TheVariants as step
use Rattle.script_text.specs.Laws.{IsScriptOf}
use Rattle.script_text.specs.Script.{ScriptValue, all_drops, drop_count}
use Rattle.x64_subset.specs.declared.proc.Life.{Life}
use Rattle.x64_subset.specs.declared.proc.Mark.{Mark}
use Rattle.x64_subset.specs.declared.proc.Mark.TheVariants.{None as NoMark, Out, Ended}
use Rattle.switching.specs.Beginning.{Beginning, Goes, Refuses, beginning, clash_of_bytes}
use Rattle.switching.specs.Journal.{after, lines}
use Rattle.switching.specs.Next.{at_cpu, begun, begun_by, found, next, ran_handler, ran_plain, ran_site, took, used_at, used_of, wrote}
use Rattle.switching.specs.Said.{TraceLine, Opens, Ends, Drops, Passes, Outs, Stops, of_cpu, said, said_begun, said_first, said_handled, said_handler, said_mark, said_plain, said_return, said_site, said_stepped}
use Rattle.switching.specs.State.{Cpu, State, first, held_after}
use Rattle.switching.proofs.ChoiceBound.{sum_more}
use Rattle.script_runner.specs.declared.acted.Acted.{Acted}
use Rattle.script_runner.specs.declared.acted.Acted.TheVariants as acted
use Rattle.script_runner.specs.Operations.{Operation, is_hit, operation_of, operations, operations_of}
use Rattle.script_runner.specs.Operations.Operation.{Hits}
use Rattle.tracer_ops.specs.Meaning.{Meaning}
use Rattle.recorded_run.specs.Fed.{fed, handed}
use Rattle.recorded_run.specs.Shown.{dropped_by, place_of, places}
use Rattle.recorded_run.specs.Stepping.{Feeds, Tracing}
use Rattle.recorded_run.proofs.Feeding.{answers_length, drops_of, fed_drops}

-- ---- what is answered of an event tells what it dropped

acted_drops : (did : Acted) → dropped_by did ≡ flat_map drops_of (operations_of did)
acted_drops acted.Plain = refl
acted_drops (acted.Hit cpu site) = refl
acted_drops (acted.Drop place) = refl

line_drops : (m : Module) (l : TraceLine) → place_of l ≡ flat_map drops_of (operation_of m l)
line_drops m (Opens update sites) = refl
line_drops m (Ends update ending) = refl
line_drops m (Drops place) = refl
line_drops m (Passes c at insn) = by (is_hit m at insn)
  where
    by : (hit : Bool) → [] ≡ flat_map drops_of (if hit then Hits c at ∷ [] else [])
    by true = refl
    by false = refl
line_drops m (Outs c port value) = refl
line_drops m (Stops c life) = refl

lines_drop : (m : Module) (ls : List TraceLine) → places ls ≡ flat_map drops_of (operations m ls)
lines_drop m [] = refl
lines_drop m (l ∷ ls) =
    ap (λ (ps : List ℕ). ps ++ places ls) (line_drops m l)
    ∙ ap (λ (ps : List ℕ). flat_map drops_of (operation_of m l) ++ ps) (lines_drop m ls)
    ∙ sym (flat_map-append drops_of (operation_of m l) (operations m ls))

-- what an event dropped, as it is answered, stands in the lines that it shows
pub acted_places : (m : Module) (ls : List TraceLine) (did : Acted) → operations_of did ≡ operations m ls → dropped_by did ≡ places ls
acted_places m ls did same =
    acted_drops did ∙ ap (λ (os : List Operation). flat_map drops_of os) same ∙ sym (lines_drop m ls)

-- there is an answer for each place of the lines
pub drops_many : (m : Module) (ls : List TraceLine) (tracers : List Meaning) (t : Tracing) → Feeds (fed (handed tracers) (operations m ls)) t → length t.drops ≡ length (places ls)
drops_many m ls tracers t h =
    let answered = answers_length (fed (handed tracers) (operations m ls)).drops t.drops h.drops in
    let many = fed_drops (handed tracers) (operations m ls) in
    let same = ap length (lines_drop m ls) in
    omega (arith, answered, many, same)

-- ---- what drops no tracer

no_mark : (c : ℕ) (life : Life) (mark : Mark) → places (said_mark c life mark) ≡ []
no_mark c life NoMark = refl
no_mark c life (Out port value) = refl
no_mark c life Ended = refl

no_stepped : (c : ℕ) (life : Life) (stepped : Stepped) → places (said_stepped c life stepped) ≡ []
no_stepped c life (PlainDone mark) = no_mark c life mark
no_stepped c life (Pass at insn mark) = no_mark c life mark
no_stepped c life Trapped = refl
no_stepped c life Torn = refl

no_handled : (c : ℕ) (life : Life) (handled : Handled) → places (said_handled c life handled) ≡ []
no_handled c life (Emulated at form mark) = no_mark c life mark
no_handled c life NotOurs = refl

no_cpu : (here : Option Cpu) (f : CpuState → List TraceLine) → ((p : CpuState) → places (f p) ≡ []) → places (of_cpu here f) ≡ []
no_cpu None f none = refl
no_cpu (Some p) f none = none p.state

no_return : (update : ℕ) (opened : Option Walk) → places (said_return update opened) ≡ []
no_return update None = refl
no_return update (Some w) = refl

no_begun : (update : ℕ) (b : Beginning) → places (said_begun update b) ≡ []
no_begun update (Refuses ending) = refl
no_begun update (Goes new []) = refl
no_begun update (Goes new (c ∷ changes)) = refl

-- ---- the drops that are still to come

later_drops : (steps : List ScriptStep) → all_drops (drop 1 steps) ≤ all_drops steps
later_drops [] = omega arith
later_drops (step ∷ rest) = (let more = sum_more drop_count step rest in omega (arith, more))

used_of_drops : (turns : ℕ) (s : State) (rest : List ScriptStep) → all_drops rest ≤ all_drops s.steps → all_drops (used_of turns s rest).steps ≤ all_drops s.steps
used_of_drops turns s rest fewer = by (s.turns + 1 == turns)
  where
    by : (b : Bool) → all_drops (if b then record s { steps = rest; turns = 0 } else record s { turns = s.turns + 1 }).steps ≤ all_drops s.steps
    by true = fewer
    by false = omega arith

used_drops : (s : State) (opened : Option Walk) (steps : List ScriptStep) → s.steps ≡ steps → all_drops (used_at s opened steps).steps ≤ all_drops s.steps
used_drops s (Some w) steps same = omega arith
used_drops s None [] same = omega arith
used_drops s None (step.Update command ∷ rest) same = omega arith
used_drops s None (step.Run turns ∷ rest) same =
    let all : all_drops s.steps ≡ all_drops (step.Run turns ∷ rest) = ap all_drops same in
    let later : all_drops rest ≤ all_drops (step.Run turns ∷ rest) = later_drops (step.Run turns ∷ rest) in
    used_of_drops turns s rest (omega (arith, all, later))
used_drops s None (step.Drop place ∷ rest) same = omega arith

cpu_drops : (here : Option Cpu) (s : State) (f : Cpu → State) → ((p : Cpu) → all_drops (f p).steps ≤ all_drops s.steps) → all_drops (at_cpu here s f).steps ≤ all_drops s.steps
cpu_drops None s f each = omega arith
cpu_drops (Some p) s f each = each p

wrote_drops : (s : State) (d : Due) → all_drops (wrote s d).steps ≤ all_drops s.steps
wrote_drops s due.Idle = omega arith
wrote_drops s (due.Write at byte) = omega arith
wrote_drops s due.Request = omega arith
wrote_drops s due.Wait = omega arith
wrote_drops s due.Return = omega arith

begun_drops : (s : State) (b : Beginning) → all_drops (begun s (drop 1 s.steps) b).steps ≤ all_drops s.steps
begun_drops s (Refuses ending) = later_drops s.steps
begun_drops s (Goes new []) = later_drops s.steps
begun_drops s (Goes new (c ∷ changes)) = omega arith

-- ---- an event drops what the script has no longer to drop after it

none_more : (ls : List TraceLine) (now later : ℕ) → places ls ≡ [] → later ≤ now → length (places ls) + later ≤ now
none_more ls now later none fewer = (let zero : length (places ls) ≡ 0 = ap length none in omega (arith, zero, fewer))

drops_begin : (m : Module) (s : State) (steps : List ScriptStep) → s.steps ≡ steps → length (places (said_first (s.updates + 1) steps (found m s steps))) + all_drops (begun_by s (found m s steps)).steps ≤ all_drops s.steps
drops_begin m s [] same = none_more [] _ _ refl (later_drops s.steps)
drops_begin m s (step.Update command ∷ rest) same =
    let found_is = beginning m (clash_of_bytes (held_after m s.writes)) s.states command in
    none_more (said_begun (s.updates + 1) found_is) (all_drops s.steps) (all_drops (begun s (drop 1 s.steps) found_is).steps) (no_begun (s.updates + 1) found_is) (begun_drops s found_is)
drops_begin m s (step.Run turns ∷ rest) same = none_more [] _ _ refl (later_drops s.steps)
drops_begin m s (step.Drop place ∷ rest) same =
    let one : length (places (Drops place ∷ [])) ≡ 1 = refl in
    let now : all_drops s.steps ≡ 1 + all_drops rest = ap all_drops same ∙ sum_more drop_count (step.Drop place) rest in
    let later : all_drops (drop 1 s.steps) ≡ all_drops rest = ap (λ (xs : List ScriptStep). all_drops (drop 1 xs)) same in
    omega (arith, one, now, later)

pub drops_next : (m : Module) (s : State) (e : Event) → length (places (said m s e)) + all_drops (next m s e).steps ≤ all_drops s.steps
drops_next m s Begin = drops_begin m s s.steps refl
drops_next m s Write = none_more [] _ _ refl (wrote_drops s (due_of s.opened))
drops_next m s Request = none_more [] _ _ refl (omega arith)
drops_next m s (Take c) = none_more [] _ _ refl (cpu_drops (slice_get s.cpus c) s (took s c) (λ p. omega arith))
drops_next m s Return =
    none_more (said_return s.updates s.opened) (all_drops s.steps) (all_drops (drop 1 s.steps)) (no_return s.updates s.opened) (later_drops s.steps)
drops_next m s (Plain c) =
    none_more (of_cpu (slice_get s.cpus c) (said_plain m c)) (all_drops s.steps) (all_drops (at_cpu (slice_get s.cpus c) s (ran_plain m s c)).steps)
    (no_cpu (slice_get s.cpus c) (said_plain m c) (λ p. no_stepped c (plain_turn m p).proc.life (plain_answer (plain_here m p) p.proc)))
    (cpu_drops (slice_get s.cpus c) s (ran_plain m s c) (λ p. used_drops s s.opened s.steps refl))
drops_next m s (At c bytes) =
    none_more (of_cpu (slice_get s.cpus c) (said_site c bytes.items)) (all_drops s.steps) (all_drops (at_cpu (slice_get s.cpus c) s (ran_site s c bytes.items)).steps)
    (no_cpu (slice_get s.cpus c) (said_site c bytes.items) (λ p. no_stepped c (at_turn bytes.items p).proc.life (at_answer bytes.items p)))
    (cpu_drops (slice_get s.cpus c) s (ran_site s c bytes.items) (λ p. used_drops s s.opened s.steps refl))
drops_next m s (Handle c) =
    none_more (of_cpu (slice_get s.cpus c) (said_handler s.opened c)) (all_drops s.steps) (all_drops (at_cpu (slice_get s.cpus c) s (ran_handler s c)).steps)
    (no_cpu (slice_get s.cpus c) (said_handler s.opened c) (λ p. no_handled c (handled_turn s.opened p).proc.life (answer s.opened p.proc)))
    (cpu_drops (slice_get s.cpus c) s (ran_handler s c) (λ p. used_drops s s.opened s.steps refl))
drops_next m s (Tick c) = none_more [] _ _ refl (used_drops s s.opened s.steps refl)

-- so do events one after the other
pub places-append : (ls more : List TraceLine) → places (ls ++ more) ≡ places ls ++ places more
places-append ls more = flat_map-append place_of ls more

pub drops_after : (m : Module) (s : State) (events : List Event) → length (places (lines m s events)) + all_drops (after m s events).steps ≤ all_drops s.steps
drops_after m s [] = none_more [] _ _ refl (omega arith)
drops_after m s (e ∷ events) =
    let one = drops_next m s e in
    let rest = drops_after m (next m s e) events in
    let both : length (places (said m s e ++ lines m (next m s e) events)) ≡ length (places (said m s e)) + length (places (lines m (next m s e) events)) =
    ap length (places-append (said m s e) (lines m (next m s e) events))
    ∙ length-append (places (said m s e)) (places (lines m (next m s e) events)) in
    omega (arith, one, rest, both)

-- of a script there are at most 64, with those of one event more
pub few_drops : (m : Module) (script : ScriptValue) (events : List Event) (e : Event) → IsScriptOf m script → length (places (lines m (first m script) events)) + length (places (said m (after m (first m script) events) e)) ≤ 64
few_drops m script events e is =
    let done = drops_after m (first m script) events in
    let one = drops_next m (after m (first m script) events) e in
    let few : all_drops script.steps ≤ 64 = is.limits.few_drops in
    omega (arith, done, one, few)
