-- What every running machine has for its next event.
use Rattle.std.proofs.Common.{◌≡◌, ◌∙◌, ◌≤◌, ◌<◌, ℕ, List, [], ◌∷◌, ◌++◌, length, drop, get_or, All, Option, Some, None, option_map, Ok, slice_get, refl, sym, ap, subst, arith, zero, suc, Bool, true, false}
use Rattle.std.proofs.lemmas.List.{length-map}
use Rattle.std.proofs.lemmas.List.Elements.{All-head}
use Rattle.std.proofs.lemmas.Option.{get_or_from_slice_get, slice_get-map, slice_get_within}
use Rattle.cpu_core.specs.Fetch.{IsFetch}
use Rattle.cpu_core.specs.Turn.{CpuState}
use Rattle.insn_forms.specs.History.{since}
use Rattle.insn_forms.specs.Write.{Write as OneWrite}
use Rattle.key_state.specs.After.{after}
use Rattle.key_state.specs.Changes.{AreStatesOf, changes}
use Rattle.module_parts.specs.declared.command.Command.{Command}
use Rattle.module_image.specs.Command.{IsCommandOf}
use Rattle.module_image.specs.Module.{States}
use Rattle.module_image.proofs.Lent.{sites_laid_out}
use Rattle.poke_batch.specs.declared.batch.Due.{Due}
use Rattle.poke_batch.specs.declared.batch.Due.TheVariants as due
use Rattle.poke_batch.specs.Clash.{CanPoke}
use Rattle.poke_batch.specs.Poke.{Item}
use Rattle.poke_batch.specs.Poke.Item.{Puts, Syncs}
use Rattle.poke_batch.specs.Walk.{Walk, due_at, due_of}
use Rattle.run_journal.specs.declared.event.Event.{Event}
use Rattle.run_journal.specs.declared.event.Event.TheVariants.{At, Begin, Write}
use Rattle.script_text.specs.declared.script.ScriptStep.{ScriptStep}
use Rattle.script_text.specs.declared.script.ScriptStep.TheVariants as step
use Rattle.script_text.specs.Laws.{IsStepOf}
use Rattle.stale_fetch.specs.Past.{candidates, with_write}
use Rattle.stale_fetch.specs.Text.{Covers}
use Rattle.stale_fetch.specs.Windows.{window_shape, windows_take}
use Rattle.stale_fetch.specs.WindowLaws.{windows_agree, windows_room}
use Rattle.switching.specs.May.{MayWrite}
use Rattle.switching.specs.Next.{next, wrote}
use Rattle.switching.specs.State.{Cpu, State, held_after, start, text_end}
use Rattle.switching.specs.StateLaws.{CanChangeTo, IsReady, TurnsAreLeft}
use Rattle.switching.proofs.Reached.{two_candidates}
use Rattle.switching.proofs.Ready.{states_ready}
use Rattle.script_runner.specs.Steps.{front}
use Rattle.script_runner.specs.Updating.{CanBegin}
use Rattle.script_runner.specs.World.{IsWorld, MayCome, StandsFor, WorldSeen, left, past_of}
use Rattle.script_runner.proofs.HeldBytes.{held_is}
use Rattle.script_runner.proofs.Pasts.{mark_there, marks_of}
use Rattle.script_runner.proofs.Reaching.{reached_next}

pub may_here : (w v : WorldSeen) (e : Event) → w ≡ v → MayCome v e → MayCome w e
may_here w v e same may = subst (λ (x : WorldSeen). MayCome x e) (sym same) may

ready : (w : WorldSeen) (h : IsWorld w) → IsReady w.image h.state
ready w h = states_ready w.image h.state h.reached

pub front_more : (steps : List ScriptStep) (step : ScriptStep) → front steps ≡ Some step → steps ≡ step ∷ drop 1 steps
front_more [] step is = absurd (cc)
front_more (other ∷ steps) step is = (let same : other ≡ step = cc in ap (λ (x : ScriptStep). x ∷ steps) same)

pub states_of_world : (w : WorldSeen) → IsWorld w → AreStatesOf w.image w.states
states_of_world w h = subst (λ (states : States). AreStatesOf w.image states) (sym h.stands.states) (ready w h).states

pub command_of_world : (w : WorldSeen) (command : Command) → IsWorld w → front (left w) ≡ Some (step.Update command) → IsCommandOf w.image command
command_of_world w command h is =
    All-head (IsStepOf w.image) (step.Update command) (drop 1 (left w))
    (subst (λ (steps : List ScriptStep). All (IsStepOf w.image) steps) (sym h.stands.steps ∙ front_more (left w) (step.Update command) is) (ready w h).steps)

pub updates_world : (w : WorldSeen) → IsWorld w → w.updates ≤ 64
updates_world w h = (let few = (ready w h).updates in let same = h.stands.updates in omega (arith, few, same))

pub sites_world : (w : WorldSeen) → IsWorld w → w.batch.sites ≤ 1024
sites_world w h = (let few = (sites_laid_out w.image h.reached.accepted).few in let same = h.batch_sites in omega (arith, few, same))

pub room_world : (w : WorldSeen) → IsWorld w → length w.image.sites ≤ w.room
room_world w h = (let same = h.room in omega (arith, same))

pub closed_begin : (w : WorldSeen) → IsWorld w → MayCome w Begin → w.batch.update ≡ None
closed_begin w h may = h.stands.opened ∙ (may h.state h.stands).closed

pub ready_world : (w : WorldSeen) (command : Command) → IsWorld w → MayCome w Begin → front (left w) ≡ Some (step.Update command) → CanBegin w.image w.text w.batch.sites w.states command
ready_world w command h may is new allowed =
    let s = h.state in
    let steps : s.steps ≡ step.Update command ∷ drop 1 (left w) = sym h.stands.steps ∙ front_more (left w) (step.Update command) is in
    let can : CanChangeTo w.image s new = (ready w h).begins command (drop 1 (left w)) new (may s h.stands).closed steps (subst (λ (states : States). after states command ≡ Ok new) h.stands.states allowed) in
    let few = can.few in
    let sites = h.batch_sites in
    let same : length (changes w.image w.states new) ≡ length (changes w.image s.states new) = ap (λ (states : States). length (changes w.image states new)) h.stands.states in
    record {
      poke = subst (λ (held : ℕ → Option ℕ). CanPoke held (changes w.image w.states new)) (sym (held_is w s h.stands)) (subst (λ (states : States). CanPoke (held_after w.image s.writes) (changes w.image states new)) (sym h.stands.states) can.poke);
      few = omega (arith, few, sites, same);
    }

-- where nothing is due no update is open
due_some : (left : List Item) (requested : Bool) → due_at left requested ≡ due.Idle → ⊥
due_some [] requested is = cc
due_some (Puts w ∷ left) requested is = cc
due_some (Syncs ∷ left) true is = cc
due_some (Syncs ∷ left) false is = cc

pub due_idle : (o : Option Walk) → due_of o ≡ due.Idle → o ≡ None
due_idle None is = refl
due_idle (Some walk) is = absurd (due_some walk.left walk.requested is)

pub turns_world : (w : WorldSeen) → IsWorld w → due_of w.batch.update ≡ due.Idle → TurnsAreLeft w.turns (left w)
turns_world w h is =
    let s = h.state in
    subst (λ (n : ℕ). TurnsAreLeft n (left w)) (sym h.stands.turns)
    (subst (λ (steps : List ScriptStep). TurnsAreLeft s.turns steps) (sym h.stands.steps) ((ready w h).turns (sym h.stands.opened ∙ due_idle w.batch.update is)))

-- a byte that is due
pub inside_world : (w : WorldSeen) (at byte : ℕ) → IsWorld w → due_of w.batch.update ≡ due.Write at byte → Covers (window_shape w.text) at
inside_world w at byte h is =
    let s = h.state in
    let told = (ready w h).dues at byte (ap due_of (sym h.stands.opened) ∙ is) in
    let agree = windows_agree w.text (past_of w.image s) h.stands.text in
    let base = agree.base in
    let size = agree.size in
    let from = told.0 in
    let to = told.1 in
    record { from = omega (arith, base, from); below = omega (arith, base, size, to) }

pub room_write : (w : WorldSeen) (at byte : ℕ) → IsWorld w → due_of w.batch.update ≡ due.Write at byte → windows_take w.text at byte
room_write w at byte h is =
    (windows_room w.text (past_of w.image h.state) at byte h.stands.text (inside_world w at byte h is)).1 few
  where
    s : State
    s = h.state

    due_is : due_of s.opened ≡ due.Write at byte
    due_is = ap due_of (sym h.stands.opened) ∙ is

    may : MayWrite s
    may = record { at = at; byte = byte; is_due = due_is }

    there : (cpus : List Cpu) (c : ℕ) → c < length cpus → (p : Cpu) × (slice_get cpus c ≡ Some p)
    there [] c below = absurd (omega (arith, below))
    there (p ∷ cpus) zero below = (p, refl)
    there (p ∷ cpus) (suc c) below = there cpus c (omega (arith, below))

    now : (d : Due) → d ≡ due.Write at byte → ((wrote s d).writes ≡ s.writes ++ (record { at = at; byte = byte }) ∷ []) × ((wrote s d).cpus ≡ s.cpus)
    now d e = subst (λ (x : Due). ((wrote s x).writes ≡ s.writes ++ (record { at = at; byte = byte }) ∷ []) × ((wrote s x).cpus ≡ s.cpus)) (sym e) (refl, refl)

    few : (cpu : ℕ) → cpu < length (past_of w.image s).marks → length (candidates (with_write (past_of w.image s) at byte) cpu at) ≤ 2
    few cpu below =
        let long : length (marks_of s.cpus) ≡ length s.cpus = length-map s.cpus (λ (p : Cpu). p.mark) in
        let p = there s.cpus cpu (omega (arith, below, long)) in
        let after = now (due_of s.opened) due_is in
        let two = two_candidates w.image (next w.image s Write) cpu p.0 at (reached_next w.image s Write h.reached may) (ap (λ (cpus : List Cpu). slice_get cpus cpu) after.1 ∙ p.1) in
        subst (λ (mark : ℕ). length (since (start w.image) (s.writes ++ (record { at = at; byte = byte }) ∷ []) mark at) ≤ 2) (sym (mark_there s.cpus cpu p.0 p.1))
        (subst (λ (ws : List OneWrite). length (since (start w.image) ws p.0.mark at) ≤ 2) after.0 two)

pub turns_here : (w : WorldSeen) (steps : List ScriptStep) → IsWorld w → steps ≡ w.script.steps → due.Idle ≡ due_of w.batch.update → TurnsAreLeft w.turns (drop w.place steps)
turns_here w steps h same idle =
    subst (λ (xs : List ScriptStep). TurnsAreLeft w.turns (drop w.place xs)) (sym same) (turns_world w h (sym idle))

-- an event that comes only where an update is open
pub some_update : (o : Option Walk) (d : Due) → due_of o ≡ d → (d ≡ due.Idle → ⊥) → o ≡ None → ⊥
some_update o d is other none = other (sym is ∙ ap due_of none)

-- a processor that an event names
pub cpu_known : (w : WorldSeen) (s : State) (c : ℕ) (p : Cpu) → StandsFor w s → slice_get s.cpus c ≡ Some p → slice_get w.cpus c ≡ Some p.state
cpu_known w s c p h here =
    ap (λ (xs : List CpuState). slice_get xs c) h.cpus ∙ slice_get-map (λ (q : Cpu). q.state) s.cpus c ∙ ap (option_map (λ (q : Cpu). q.state)) here

-- a processor at a patched site, whose number is small, stands where it fetches these bytes
pub cpu_few : (w u : WorldSeen) (c : ℕ) (bytes : List ℕ) → w ≡ u → IsWorld w → MayCome u (At c (record { items = bytes })) → c ≤ 15
cpu_few w u c bytes same h may =
    let told = may_here w u (At c (record { items = bytes })) same may h.state h.stands in
    let within = slice_get_within w.cpus c told.turn.cpu.state (cpu_known w h.state c told.turn.cpu h.stands told.turn.here) in
    let few = h.few_cpus in
    omega (arith, within, few)

pub fetched_here : (w u : WorldSeen) (c i : ℕ) (bytes : List ℕ) (x d : CpuState) → w ≡ u → IsWorld w → MayCome u (At c (record { items = bytes })) → i ≡ c → x ≡ get_or w.cpus i d → (end : ℕ) × IsFetch end x.proc.ip bytes
fetched_here w u c i bytes x d same h may place is =
    let told = may_here w u (At c (record { items = bytes })) same may h.state h.stands in
    let found = cpu_known w h.state c told.turn.cpu h.stands told.turn.here in
    let one : x ≡ told.turn.cpu.state = is ∙ ap (λ (n : ℕ). get_or w.cpus n d) place ∙ get_or_from_slice_get w.cpus c told.turn.cpu.state d found in
    (text_end w.image, subst (λ (y : CpuState). IsFetch (text_end w.image) y.proc.ip bytes) (sym one) told.fetch)
