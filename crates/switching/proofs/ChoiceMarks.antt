-- A processor's mark is never more than the writes that have been made, so each byte that it may fetch has a candidate.
--
-- For the laws:
--   marks_first                MarksFit of the first state
--   marks_next                 MarksFit is kept by every event
--   cpus_next, cpus_after      there are as many processors after each event
--   picked_stood               mark ≤ length writes → IsCandidate start writes mark at (picked word j (since start writes mark at))
use Rattle.std.proofs.Common.{◌≡◌, ◌⊎◌, inl, inr, ℕ, zero, suc, ◌+◌, ◌-◌, ◌*◌, ◌/◌, ◌%◌, ◌^◌, ◌<◌, ◌≤◌, ◌==◌, Bool, true, false, if◌then◌else◌, List, [], ◌∷◌, ◌++◌, length, map, set, slice_get, slice_index, Option, Some, None, option_map, refl, ap, sym, subst, ◌∙◌, arith, length-append}
use Rattle.std.specs.List.{list_any, range_with_len}
use Rattle.std.proofs.Math.Nat.{mod-lt}
use Rattle.std.proofs.lemmas.List.{length-set}
use Rattle.std.proofs.lemmas.Option.{same_Some, slice_get-map}
use Rattle.insn_forms.specs.History.{Memory, IsCandidate, byte, since, without}
use Rattle.insn_forms.specs.Write.{Write as OneWrite}
use Rattle.cpu_core.specs.Fetch.{picked}
use Rattle.cpu_core.specs.Turn.{plain_here, plain_serialises}
use Rattle.module_image.specs.Module.{Module}
use Rattle.poke_batch.specs.declared.batch.Due.{Due}
use Rattle.poke_batch.specs.declared.batch.Due.TheVariants as due
use Rattle.poke_batch.specs.Walk.{Walk, due_of}
use Rattle.run_journal.specs.declared.event.Event.{Event}
use Rattle.run_journal.specs.declared.event.Event.TheVariants.{Begin, Write, Request, Take, Return, Plain, At, Handle, Tick}
use Rattle.script_text.specs.declared.script.ScriptStep.{ScriptStep}
use Rattle.script_text.specs.declared.script.ScriptStep.TheVariants as step
use Rattle.script_text.specs.Script.{ScriptValue}
use Rattle.switching.specs.Beginning.{Beginning, Goes, Refuses}
use Rattle.switching.specs.Journal.{after}
use Rattle.switching.specs.Next.{at_cpu, begun_by, found, marked, next, ran_handler, ran_plain, ran_site, took, used, used_at, used_of, with_cpu, wrote}
use Rattle.switching.specs.State.{Cpu, State, first, starting}
use Rattle.switching.proofs.Lookups.{AtSet, at_it, at_set, beside_it}
use Rattle.switching.proofs.Sinces.{IsAt, range_at}
use Rattle.switching.proofs.Writes.{Has}

-- each processor's mark is at most the number of writes
abbrev pub MarksFit : List OneWrite → List Cpu → Type 0
MarksFit writes cpus = (c : ℕ) (p : Cpu) → slice_get cpus c ≡ Some p → p.mark ≤ length writes

-- in a state
abbrev pub Fit : State → Type 0
Fit s = MarksFit s.writes s.cpus

started : (entry : Option ℕ) (p : Cpu) → option_map starting entry ≡ Some p → p.mark ≡ 0
started None p is = absurd (cc)
started (Some entry) p is = ap (λ (q : Cpu). q.mark) (sym (same_Some (starting entry) p is))

pub marks_first : (m : Module) (script : ScriptValue) → Fit (first m script)
marks_first m script c p here =
    let none : p.mark ≡ 0 = started (slice_get script.entries c) p (sym (slice_get-map starting script.entries c) ∙ here) in
    omega arith

-- more writes, and another processor
marks_more : (writes : List OneWrite) (w : OneWrite) (cpus : List Cpu) → MarksFit writes cpus → MarksFit (writes ++ w ∷ []) cpus
marks_more writes w cpus fit c p here =
    let below : p.mark ≤ length writes = fit c p here in
    let long = length-append writes (w ∷ []) in
    omega arith

marks_set : (writes : List OneWrite) (cpus : List Cpu) (c : ℕ) (q : Cpu) → MarksFit writes cpus → q.mark ≤ length writes → MarksFit writes (set cpus c q)
marks_set writes cpus c q fit small d p here = by (at_set cpus c q d p here)
  where
    by : AtSet cpus c q d p → p.mark ≤ length writes
    by (at_it same is) = subst (λ (x : Cpu). x.mark ≤ length writes) (sym is) small
    by (beside_it other there) = fit d p there

-- a turn that is used leaves writes and processors
used_of_same : (turns : ℕ) (s : State) (rest : List ScriptStep) → ((used_of turns s rest).writes ≡ s.writes) × ((used_of turns s rest).cpus ≡ s.cpus)
used_of_same turns s rest = by (s.turns + 1 == turns)
  where
    by : (b : Bool) → ((if b then record s { steps = rest; turns = 0 } else record s { turns = s.turns + 1 }).writes ≡ s.writes) × ((if b then record s { steps = rest; turns = 0 } else record s { turns = s.turns + 1 }).cpus ≡ s.cpus)
    by true = (refl, refl)
    by false = (refl, refl)

used_at_same : (s : State) (opened : Option Walk) (steps : List ScriptStep) → ((used_at s opened steps).writes ≡ s.writes) × ((used_at s opened steps).cpus ≡ s.cpus)
used_at_same s (Some w) steps = (refl, refl)
used_at_same s None [] = (refl, refl)
used_at_same s None (step.Update command ∷ rest) = (refl, refl)
used_at_same s None (step.Run turns ∷ rest) = used_of_same turns s rest
used_at_same s None (step.Drop place ∷ rest) = (refl, refl)

pub used_same : (s : State) → ((used s).writes ≡ s.writes) × ((used s).cpus ≡ s.cpus)
used_same s = used_at_same s s.opened s.steps

marks_used : (s : State) → Fit s → Fit (used s)
marks_used s fit =
    let same = used_same s in
    subst (λ (writes : List OneWrite). MarksFit writes (used s).cpus) (sym same.0) (subst (λ (cpus : List Cpu). MarksFit s.writes cpus) (sym same.1) fit)

-- a processor that is another after a turn
marks_turn : (s : State) (c : ℕ) (q : Cpu) → Fit s → q.mark ≤ length s.writes → Fit (with_cpu (used s) c q)
marks_turn s c q fit small =
    let same = used_same s in
    marks_set (used s).writes (used s).cpus c q (marks_used s fit) (subst (λ (writes : List OneWrite). q.mark ≤ length writes) (sym same.0) small)

-- each event
marks_begun : (s : State) (o : Option Beginning) → Fit s → Fit (begun_by s o)
marks_begun s None fit = fit
marks_begun s (Some (Refuses ending)) fit = fit
marks_begun s (Some (Goes new [])) fit = fit
marks_begun s (Some (Goes new (c ∷ changes))) fit = fit

marks_wrote : (s : State) (d : Due) → Fit s → Fit (wrote s d)
marks_wrote s due.Idle fit = fit
marks_wrote s (due.Write at byte) fit = marks_more s.writes (record { at = at; byte = byte }) s.cpus fit
marks_wrote s due.Request fit = fit
marks_wrote s due.Wait fit = fit
marks_wrote s due.Return fit = fit

marks_at_cpu : (here : Option Cpu) (s : State) (f : Cpu → State) → Fit s → ((p : Cpu) → here ≡ Some p → Fit (f p)) → Fit (at_cpu here s f)
marks_at_cpu None s f fit each = fit
marks_at_cpu (Some p) s f fit each = each p refl

mark_small : (s : State) (p : Cpu) (serialises : Bool) → p.mark ≤ length s.writes → marked serialises s p.mark ≤ length s.writes
mark_small s p true small = omega arith
mark_small s p false small = small

pub marks_next : (m : Module) (s : State) (e : Event) → Fit s → Fit (next m s e)
marks_next m s Begin fit = marks_begun s (found m s s.steps) fit
marks_next m s Write fit = marks_wrote s (due_of s.opened) fit
marks_next m s Request fit = fit
marks_next m s (Take c) fit =
    marks_at_cpu (slice_get s.cpus c) s (took s c) fit
    (λ p here. marks_set s.writes s.cpus c (record p { mark = length s.writes }) fit (omega arith))
marks_next m s Return fit = fit
marks_next m s (Plain c) fit =
    marks_at_cpu (slice_get s.cpus c) s (ran_plain m s c) fit
    (λ p here. marks_turn s c _ fit (mark_small s p (plain_serialises (plain_here m p.state)) (fit c p here)))
marks_next m s (At c bytes) fit =
    marks_at_cpu (slice_get s.cpus c) s (ran_site s c bytes.items) fit (λ p here. marks_turn s c _ fit (fit c p here))
marks_next m s (Handle c) fit =
    marks_at_cpu (slice_get s.cpus c) s (ran_handler s c) fit (λ p here. marks_turn s c _ fit (omega arith))
marks_next m s (Tick c) fit = marks_used s fit

-- ---- there are as many processors after each event

cpus_at_cpu : (here : Option Cpu) (s : State) (f : Cpu → State) → ((p : Cpu) → length (f p).cpus ≡ length s.cpus) → length (at_cpu here s f).cpus ≡ length s.cpus
cpus_at_cpu None s f each = refl
cpus_at_cpu (Some p) s f each = each p

cpus_begun : (s : State) (o : Option Beginning) → (begun_by s o).cpus ≡ s.cpus
cpus_begun s None = refl
cpus_begun s (Some (Refuses ending)) = refl
cpus_begun s (Some (Goes new [])) = refl
cpus_begun s (Some (Goes new (c ∷ changes))) = refl

cpus_wrote : (s : State) (d : Due) → (wrote s d).cpus ≡ s.cpus
cpus_wrote s due.Idle = refl
cpus_wrote s (due.Write at byte) = refl
cpus_wrote s due.Request = refl
cpus_wrote s due.Wait = refl
cpus_wrote s due.Return = refl

cpus_turn : (s : State) (c : ℕ) (q : Cpu) → length (with_cpu (used s) c q).cpus ≡ length s.cpus
cpus_turn s c q = length-set (used s).cpus c q ∙ ap length (used_same s).1

pub cpus_next : (m : Module) (s : State) (e : Event) → length (next m s e).cpus ≡ length s.cpus
cpus_next m s Begin = ap length (cpus_begun s (found m s s.steps))
cpus_next m s Write = ap length (cpus_wrote s (due_of s.opened))
cpus_next m s Request = refl
cpus_next m s (Take c) = cpus_at_cpu (slice_get s.cpus c) s (took s c) (λ p. length-set s.cpus c _)
cpus_next m s Return = refl
cpus_next m s (Plain c) = cpus_at_cpu (slice_get s.cpus c) s (ran_plain m s c) (λ p. cpus_turn s c _)
cpus_next m s (At c bytes) = cpus_at_cpu (slice_get s.cpus c) s (ran_site s c bytes.items) (λ p. cpus_turn s c _)
cpus_next m s (Handle c) = cpus_at_cpu (slice_get s.cpus c) s (ran_handler s c) (λ p. cpus_turn s c _)
cpus_next m s (Tick c) = ap length (used_same s).1

pub cpus_after : (m : Module) (s : State) (events : List Event) → length (after m s events).cpus ≡ length s.cpus
cpus_after m s [] = refl
cpus_after m s (e ∷ events) = cpus_after m (next m s e) events ∙ cpus_next m s e

-- ---- what is picked has stood there

-- what is left of a list without some is of the list
without_has : (seen values : List ℕ) (v : ℕ) → Has (without seen values) v → Has values v
without_has seen [] v none = elim none [ ]
without_has seen (x ∷ values) v has = by (without_has seen values v) (without_has (x ∷ seen) values v) (list_any (λ other. other == x) seen) has
  where
    by : (Has (without seen values) v → Has values v) → (Has (without (x ∷ seen) values) v → Has values v) → (b : Bool) → Has (if b then without seen values else x ∷ without (x ∷ seen) values) v → (x ≡ v) ⊎ Has values v
    by known fresh true has = inr (known has)
    by known fresh false (inl is) = inl is
    by known fresh false (inr later) = inr (fresh later)

-- an element by a place below the length
has_index : (xs : List ℕ) (i : ℕ) → i < length xs → Has xs (slice_index xs i)
has_index [] i below = absurd (omega arith)
has_index (x ∷ xs) zero below = inl refl
has_index (x ∷ xs) (suc i) below = inr (has_index xs i (omega arith))

-- a byte has some candidate
since_some : (start : Memory) (writes : List OneWrite) (mark at n : ℕ) → length writes + 1 - mark ≡ suc n → 0 < length (since start writes mark at)
since_some start writes mark at n is =
    subst (λ (k : ℕ). 0 < length (without [] (map (λ j. byte start writes j at) (range_with_len mark k)))) (sym is) (omega arith)

pub picked_stood : (start : Memory) (writes : List OneWrite) (mark at word j : ℕ) → mark ≤ length writes → IsCandidate start writes mark at (picked word j (since start writes mark at))
picked_stood start writes mark at word j small =
    let some : 0 < length (since start writes mark at) = since_some start writes mark at (length writes - mark) (omega arith) in
    let has = has_index (since start writes mark at) (((word / 2 ^ (8 * j)) % 256) % length (since start writes mark at)) (mod-lt _ some) in
    let place : IsAt (λ n. byte start writes n at) mark (length writes + 1 - mark) (picked word j (since start writes mark at)) = range_at _ mark (length writes + 1 - mark) _ (without_has [] _ _ has) in
    let from : mark ≤ place.place = place.from in
    let to : place.place < mark + (length writes + 1 - mark) = place.to in
    record { after = place.place; from = from; to = omega arith; had = place.is }
