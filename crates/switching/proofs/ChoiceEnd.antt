-- The events that are chosen are few.
--
-- For the laws:
--   event_lowers               an event lowers the number of those that may still come
--   late_event                 which events come after sixteen turns, as `event_lowers` asks
use Rattle.std.proofs.Common.{◌≡◌, inl, inr, ℕ, suc, ◌+◌, ◌<◌, ◌≤◌, true, false, List, [], ◌∷◌, ◌++◌, length, set, slice_get, Option, Some, Result, Ok, Err, refl, ap, sym, subst, ◌∙◌, arith}
use Rattle.std.specs.List.{list_all}
use Rattle.std.proofs.lemmas.List.{length-set}
use Rattle.std.proofs.lemmas.Option.{slice_get_cases}
use Rattle.cpu_core.specs.declared.turn.TurnKind.TheVariants as kind
use Rattle.cpu_core.specs.Turn.{CpuState, at_turn, handled_turn, insn_turn, plain_here, plain_serialises, plain_turn, read_turn}
use Rattle.module_image.specs.Module.{Module}
use Rattle.module_image.proofs.Lent.{sites_laid_out}
use Rattle.poke_batch.specs.declared.batch.Due.TheVariants as due
use Rattle.poke_batch.specs.Walk.{Walk, due_of, has_taken}
use Rattle.poke_batch.proofs.Flags.{Unset, unset_of}
use Rattle.run_journal.specs.declared.event.Event.{Event}
use Rattle.run_journal.specs.declared.event.Event.TheVariants.{Begin, Write, Request, Take, Return, Plain, At, Handle, Tick}
use Rattle.script_text.specs.Laws.{IsScriptOf}
use Rattle.script_text.specs.Script.{ScriptValue, all_drops, all_turns, all_updates}
use Rattle.x64_subset.specs.declared.insn.Insn.{Insn}
use Rattle.x64_subset.specs.declared.insn.Insn.TheVariants.{Int3}
use Rattle.x64_subset.specs.declared.insn.Undecoded.{Undecoded}
use Rattle.x64_subset.specs.declared.proc.Life.TheVariants.{Running}
use Rattle.x64_subset.specs.Reading.{read}
use Rattle.switching.specs.Choice.{Choice, Chooser, Comes, Fetches, IsChosen, IsEventOf, Takes, by_cpu, chooser_after, first_chooser, handler_choices, idle_after, most_events, take_choices}
use Rattle.switching.specs.ChoiceLaws.{ChosenEnd, ChosenPrefixesEnd, IsChosenSoFar}
use Rattle.switching.specs.May.{May, MayTurn, has_turns}
use Rattle.switching.specs.Next.{at_cpu, marked, next, ran_handler, ran_plain, ran_site, used, with_cpu}
use Rattle.switching.specs.State.{Cpu, State}
use Rattle.switching.proofs.ChoiceBound.{bound, steps_bound, steps_most, trapped_less}
use Rattle.switching.proofs.ChoiceForced.{IsNoTurn, chosen_late, someone}
use Rattle.switching.proofs.ChoiceLegal.{taken_may}
use Rattle.switching.proofs.ChoiceLowers.{IsLate, begin_lowers, request_lowers, return_lowers, take_lowers, turn_lowers, write_lowers}
use Rattle.switching.proofs.ChoiceMarks.{Fit, marks_first, marks_next, used_same}
use Rattle.switching.proofs.ChoiceSteady.{IsSteady, LowersTo, RunsTrapped, WalkFits, at_free, handle_caught, plain_free, run_set, steady_first}

-- ---- a turn of one processor

-- a processor is another after its turn
cpu_lowers : (n : ℕ) (s : State) (idle c : ℕ) (p q : Cpu) (f : Cpu → State) → IsSteady n s → has_turns s.opened s.steps ≡ true → slice_get s.cpus c ≡ Some p → RunsTrapped q → IsLate s.opened s.cpus (set s.cpus c q) idle → f p ≡ with_cpu (used s) c q → LowersTo n s idle (at_cpu (slice_get s.cpus c) s f) (idle + 1)
cpu_lowers n s idle c p q f steady turn here runs late is =
    let same : record (used s) { cpus = set s.cpus c q } ≡ at_cpu (slice_get s.cpus c) s f = sym (ap (λ (o : Option Cpu). at_cpu o s f) here ∙ is ∙ ap (λ (cpus : List Cpu). record (used s) { cpus = set cpus c q }) (used_same s).1) in
    subst (λ (t : State). LowersTo n s idle t (idle + 1)) same
    (turn_lowers n s idle (set s.cpus c q) steady turn (length-set s.cpus c q ∙ steady.long) (run_set s.cpus c q steady.run runs) late)

-- one that fetched a breakpoint runs
insn_runs : (insn : Insn) (len : ℕ) (p : CpuState) → p.trapped ≡ false → p.proc.life ≡ Running → (insn_turn insn len p).trapped ≡ true → (insn_turn insn len p).proc.life ≡ Running
insn_runs Int3 len p free runs caught = runs
insn_runs insn len p free runs caught = absurd (cc)

read_runs : (r : Result (Insn × ℕ) Undecoded) (p : CpuState) → p.trapped ≡ false → p.proc.life ≡ Running → (read_turn r p).trapped ≡ true → (read_turn r p).proc.life ≡ Running
read_runs (Ok (insn, len)) p free runs caught = insn_runs insn len p free runs caught
read_runs (Err why) p free runs caught = absurd (cc)

-- turns that don't come late
never_late : (s : State) (idle : ℕ) (cpus : List Cpu) → ((w : Walk) → s.opened ≡ Some w → 16 ≤ idle → ⊥) → IsLate s.opened s.cpus cpus idle
never_late s idle cpus never w opened late = absurd (never w opened late)

plain_lowers : (n : ℕ) (m : Module) (s : State) (idle c : ℕ) → IsSteady n s → MayTurn m s c kind.Plain → ((w : Walk) → s.opened ≡ Some w → 16 ≤ idle → ⊥) → LowersTo n s idle (next m s (Plain c)) (idle + 1)
plain_lowers n m s idle c steady may never =
    let p : Cpu = may.cpu in
    let q : Cpu = record { state = plain_turn m p.state; mark = marked (plain_serialises (plain_here m p.state)) s p.mark } in
    let free = plain_free m p.state.trapped p.state.proc.ip p.state.proc.life may.is in
    cpu_lowers n s idle c p q (ran_plain m s c) steady may.turn may.here (λ caught. absurd (cc))
    (never_late s idle (set s.cpus c q) never) refl

site_lowers : (n : ℕ) (m : Module) (s : State) (idle c : ℕ) (bytes : List ℕ) → IsSteady n s → MayTurn m s c kind.At → ((w : Walk) → s.opened ≡ Some w → 16 ≤ idle → ⊥) → LowersTo n s idle (at_cpu (slice_get s.cpus c) s (ran_site s c bytes)) (idle + 1)
site_lowers n m s idle c bytes steady may never =
    let p : Cpu = may.cpu in
    let q : Cpu = record p { state = at_turn bytes p.state } in
    let free = at_free m p.state.trapped p.state.proc.ip p.state.proc.life may.is in
    cpu_lowers n s idle c p q (ran_site s c bytes) steady may.turn may.here
    (read_runs (read p.state.proc.ip bytes) p.state free.0 free.1)
    (never_late s idle (set s.cpus c q) never) refl

handler_lowers : (n : ℕ) (m : Module) (s : State) (idle c : ℕ) → IsSteady n s → MayTurn m s c kind.Handle → ((w : Walk) → s.opened ≡ Some w → 16 ≤ idle → due_of s.opened ≡ due.Wait) → LowersTo n s idle (next m s (Handle c)) (idle + 1)
handler_lowers n m s idle c steady may waits =
    let p : Cpu = may.cpu in
    let q : Cpu = record { state = handled_turn s.opened p.state; mark = length s.writes } in
    let caught = handle_caught m p.state.trapped p.state.proc.ip p.state.proc.life may.is in
    cpu_lowers n s idle c p q (ran_handler s c) steady may.turn may.here (λ isn. absurd (cc))
    (λ w opened late. (waits w opened late, trapped_less s.cpus c p q may.here caught refl)) refl

tick_lowers : (n : ℕ) (m : Module) (s : State) (idle c : ℕ) → IsSteady n s → MayTurn m s c kind.Tick → ((w : Walk) → s.opened ≡ Some w → 16 ≤ idle → ⊥) → LowersTo n s idle (next m s (Tick c)) (idle + 1)
tick_lowers n m s idle c steady may never =
    subst (λ (t : State). LowersTo n s idle t (idle + 1)) (ap (λ (cpus : List Cpu). record (used s) { cpus = cpus }) (sym (used_same s).1))
    (turn_lowers n s idle s.cpus steady may.turn steady.long steady.run (never_late s idle s.cpus never))

-- ---- an event that is chosen

-- where a request waits someone may take it, or leave the handler
someone_there : (n : ℕ) (m : Module) (s : State) (w : Walk) → IsSteady n s → s.opened ≡ Some w → due_of s.opened ≡ due.Wait → 0 < length (by_cpu s (take_choices s) ++ by_cpu s (handler_choices m s.opened))
someone_there n m s w steady opened waits =
    let flags : (s.turns ≡ 0) × (length w.took ≡ n) × (list_all (λ t. t) w.took ≡ false) = subst (λ (o : Option Walk). WalkFits n o s.turns s.steps) opened steady.walk in
    let one : Unset w.took = unset_of w.took flags.2 in
    let within : one.index < length w.took = one.within in
    let long : length w.took ≡ n = flags.1 in
    let cpus : length s.cpus ≡ n = steady.long in
    let there = get_there s.cpus one.index (omega (arith, within, long, cpus)) in
    someone m s w one.index there.0 opened waits there.1 (ap (λ (o : Option Walk). has_taken o one.index) opened ∙ one.unset)
    (steady.run one.index there.0 there.1)
  where
    get_there : (cpus : List Cpu) (i : ℕ) → i < length cpus → (p : Cpu) × (slice_get cpus i ≡ Some p)
    get_there cpus i below =
        elim (slice_get_cases cpus i).1 [ inl found ↦ (found.0, found.2) | inr past ↦ (let end = past.0 in absurd (omega (arith, below, end))) ]

-- the event of a choice that is no turn is none
no_turn_event : (m : Module) (s : State) (choice : Choice) (words : ℕ) (e : Event) → IsNoTurn s choice → IsEventOf m s choice words e → IsNoTurn s (Comes e)
no_turn_event m s (Comes event) words e no_turn is = subst (λ (x : Event). IsNoTurn s (Comes x)) (sym is) no_turn
no_turn_event m s (Fetches c) words e no_turn is = absurd no_turn

pub late_event : (n : ℕ) (m : Module) (ch : Chooser) (e : Event) (choice : Choice) (words : ℕ) → IsSteady n ch.state → Takes m ch e choice words → (w : Walk) → ch.state.opened ≡ Some w → 16 ≤ ch.idle → IsNoTurn ch.state (Comes e)
late_event n m ch e choice words steady takes w opened late =
    no_turn_event m ch.state choice words e
    (chosen_late m ch w choice words opened late (someone_there n m ch.state w steady opened) takes.is) takes.event

pub event_lowers : (n : ℕ) (m : Module) (s : State) (idle : ℕ) (e : Event) → length m.sites ≤ 1024 → IsSteady n s → May m s e → ((w : Walk) → s.opened ≡ Some w → 16 ≤ idle → IsNoTurn s (Comes e)) → LowersTo n s idle (next m s e) (idle_after e idle)
event_lowers n m s idle Begin sites steady may late = begin_lowers n m s idle sites steady may
event_lowers n m s idle Write sites steady may late = write_lowers n m s idle may.at may.byte steady may.is_due
event_lowers n m s idle Request sites steady may late = request_lowers n m s idle steady may
event_lowers n m s idle (Take c) sites steady may late = take_lowers n m s idle c steady may
event_lowers n m s idle Return sites steady may late = return_lowers n m s idle steady may
event_lowers n m s idle (Plain c) sites steady may late = plain_lowers n m s idle c steady may late
event_lowers n m s idle (At c bytes) sites steady may late = site_lowers n m s idle c bytes.items steady may.turn late
event_lowers n m s idle (Handle c) sites steady may late = handler_lowers n m s idle c steady may late
event_lowers n m s idle (Tick c) sites steady may late = tick_lowers n m s idle c steady may late

-- ---- a run

ends_from : (n : ℕ) (m : Module) (ch : Chooser) (events : List Event) → length m.sites ≤ 1024 → IsSteady n ch.state → Fit ch.state → IsChosenSoFar m ch events → length events ≤ bound n ch.state ch.idle
ends_from n m ch [] sites steady fit chosen = omega arith
ends_from n m ch (e ∷ events) sites steady fit (choice, words, takes, more) =
    let lower = event_lowers n m ch.state ch.idle e sites steady (taken_may m ch e choice words fit takes) (late_event n m ch e choice words steady takes) in
    let fewer : suc (bound n (next m ch.state e) (idle_after e ch.idle)) ≤ bound n ch.state ch.idle = lower.fewer in
    let rest = ends_from n m (chooser_after m ch choice words e) events sites lower.steady (marks_next m ch.state e fit) more in
    omega (arith, fewer, rest)

-- a script's run lines, updates and drops
pub script_bound : (m : Module) (script : ScriptValue) → IsScriptOf m script → steps_bound 0 script.steps ≤ most_events
script_bound m script of =
    let is = steps_most script.steps in
    let updates : all_updates script.steps ≤ 64 = of.limits.few_updates in
    let drops : all_drops script.steps ≤ 64 = of.limits.few_drops in
    let turned : all_turns script.steps ≤ 1000000 = of.limits.few_turns in
    omega (arith, is, updates, drops, turned)

pub chosen_prefixes_end : ChosenPrefixesEnd
chosen_prefixes_end m script seed events accepted of chosen =
    let run = ends_from (length script.entries) m (first_chooser m script seed) events (sites_laid_out m accepted).few (steady_first m script of) (marks_first m script) chosen in
    let most = script_bound m script of in
    omega (arith, run, most)

-- a journal that is chosen to the end is chosen so far
so_far : (m : Module) (ch : Chooser) (events : List Event) → IsChosen m ch events → IsChosenSoFar m ch events
so_far m ch [] done = tt
so_far m ch (e ∷ events) (choice, words, takes, more) =
    (choice, words, takes, so_far m (chooser_after m ch choice words e) events more)

pub chosen_end : ChosenEnd
chosen_end m script seed events accepted of chosen =
    chosen_prefixes_end m script seed events accepted of (so_far m (first_chooser m script seed) events chosen)
