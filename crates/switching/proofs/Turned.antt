-- One processor changes in both machines, and a turn is used.
use Rattle.std.proofs.Common.{◌≡◌, ◌≢◌, ◌∙◌, ◌+◌, ◌==◌, ◌&&◌, ◌||◌, ◌⊎◌, inl, inr, ℕ, Bool, true, false, if◌then◌else◌, List, [], ◌∷◌, ◌++◌, length, set, All, Contains, Option, Some, None, slice_get, slice_set, slice_index_or, refl, sym, ap, subst, arith}
use Rattle.std.proofs.lemmas.Bool.Decides.{Decides-eqb}
use Rattle.std.proofs.lemmas.List.{length-append, length-set, set-get_or}
use Rattle.std.proofs.lemmas.List.Elements.{All-tail}
use Rattle.std.proofs.lemmas.Option.{get_or_from_slice_get}
use Rattle.insn_forms.specs.declared.forms.Change.{Change}
use Rattle.insn_forms.specs.declared.forms.Form.{Form}
use Rattle.insn_forms.specs.History.{byte, written}
use Rattle.insn_forms.specs.Write.{Write}
use Rattle.x64_subset.specs.declared.proc.Proc.{Proc}
use Rattle.cpu_core.specs.Turn.{CpuState}
use Rattle.poke_batch.specs.Walk.{Walk}
use Rattle.key_state.specs.Changes.{AreStatesOf}
use Rattle.module_image.specs.Flows.{Flows}
use Rattle.module_image.specs.Module.{IsAccepted, Module, States, layout_of}
use Rattle.module_image.proofs.Positions.{slice_get-set_other}
use Rattle.script_text.specs.declared.script.ScriptStep.{ScriptStep}
use Rattle.script_text.specs.declared.script.ScriptStep.TheVariants as step
use Rattle.script_text.specs.Laws.{IsStepOf}
use Rattle.switching.specs.Next.{used, used_at, with_cpu}
use Rattle.switching.specs.State.{Cpu, State, start}
use Rattle.switching.specs.Switching.{AsNew, AsOld, PassKind, Switching, Unchanged, has_passed, noted, without_runs}
use Rattle.switching.proofs.Alike.{IsLike}
use Rattle.switching.proofs.Chunk.{trap_stays}
use Rattle.switching.proofs.Fetching.{CpuOk}
use Rattle.switching.proofs.Invariant.{CpuFacts, CpuPair, IsCurrent, Opened, Related, Stands, count, joined, steps_left}
use Rattle.switching.proofs.Lookups.{AtSet, at_it, beside_it, at_set, set_there}
use Rattle.switching.proofs.Parts.{poked}
use Rattle.switching.proofs.Patching.{count_zero}
use Rattle.switching.proofs.Rounds.{round}
use Rattle.switching.proofs.Writes.{byte_last}

-- ---- one processor

-- the passes of the others are what they were
abbrev pub OthersSame : List (ℕ × ℕ) → List (ℕ × ℕ) → ℕ → Type 0
OthersSame passed after c = (i at : ℕ) → i ≢ c → has_passed after i at ≡ has_passed passed i at

pub others_noted : (kind : PassKind) (c at : ℕ) (passed : List (ℕ × ℕ)) → OthersSame passed (noted kind c at passed) c
others_noted (Unchanged form) c at passed i a other = refl
others_noted (AsOld form) c at passed i a other = refl
others_noted (AsNew form) c at passed i a other = by (c == i) refl
  where
    by : (b : Bool) → (c == i) ≡ b → ((c == i && at == a) || has_passed passed i a) ≡ has_passed passed i a
    by true e = absurd (other (sym ((Decides-eqb c i).0 e)))
    by false e = ap (λ (b : Bool). (b && at == a) || has_passed passed i a) e

pub cpu_turned : (m : Module) (ws : List Write) (cpus : List Cpu) (states : States) (forms : ℕ → Form) (passed after : List (ℕ × ℕ)) (opened : Option Walk) (c : ℕ) (p : Cpu) (st : Stands m ws cpus states forms passed opened) → CpuOk m ws cpus states forms passed opened st after c p → OthersSame passed after c → Stands m ws (slice_set cpus c p) states forms after opened
cpu_turned m ws cpus states forms passed after None c p st ok others = record {
  forms_are = st.forms_are;
  text = st.text;
  cpus_are = λ i q there. by i q (at_set cpus c p i q there);
  nobody = ok.1;
}
  where
    by : (i : ℕ) (q : Cpu) → AtSet cpus c p i q → IsCurrent ws q
    by i q (at_it same is) = subst (λ (x : Cpu). IsCurrent ws x) (sym is) ok.0
    by i q (beside_it other there) = st.cpus_are i q there
cpu_turned m ws cpus states forms passed after (Some u) c p o ok others = record {
  finished = o.finished;
  parts = o.parts;
  forms_are = o.forms_are;
  place = o.place;
  bytes = o.bytes;
  text = o.text;
  cpus_are = record {
    long = o.cpus_are.long ∙ sym (length-set cpus c p);
    asked = o.cpus_are.asked;
    each = λ i q there. by i q (at_set cpus c p i q there);
  };
}
  where
    facts : List (ℕ × ℕ) → ℕ → Cpu → Type 0
    facts passes i q = CpuFacts (start m) ws o.place.past u.chunk (joined u.later) passes i (slice_index_or u.took i false) (count (slice_index_or u.took i false) o.place.r) q

    beside : (i : ℕ) (q : Cpu) → i ≢ c → CpuFacts (start m) ws o.place.past u.chunk (joined u.later) passed i (slice_index_or u.took i false) (count (slice_index_or u.took i false) o.place.r) q → CpuFacts (start m) ws o.place.past u.chunk (joined u.later) after i (slice_index_or u.took i false) (count (slice_index_or u.took i false) o.place.r) q
    beside i q other f = record {
      from = f.from;
      to = f.to;
      current = f.current;
      trap = f.trap;
      as_new = λ k has new. f.as_new k has (sym (others i k.at other) ∙ new);
      not_yet = λ k has new. f.not_yet k has (sym (others i k.at other) ∙ new);
    }

    by : (i : ℕ) (q : Cpu) → AtSet cpus c p i q → CpuFacts (start m) ws o.place.past u.chunk (joined u.later) after i (slice_index_or u.took i false) (count (slice_index_or u.took i false) o.place.r) q
    by i q (at_it same is) = subst (λ (x : Cpu). facts after i x) (sym is) (subst (λ (k : ℕ). facts after k p) (sym same) ok)
    by i q (beside_it other there) = beside i q other (o.cpus_are.each i q there)

-- of both machines
pub related_cpu : (m : Module) (s : State) (t : Switching) (c : ℕ) (p p' : Cpu) (q' : Proc) (after : List (ℕ × ℕ)) (h : Related m s t) → slice_get s.cpus c ≡ Some p → IsLike p'.state.trapped p'.state.proc q' → Flows (layout_of m) q' → CpuOk m s.writes s.cpus s.states t.forms t.passed s.opened h.stands after c p' → OthersSame t.passed after c → Related m (with_cpu s c p') (record t { procs = slice_set t.procs c q'; passed = after })
related_cpu m s t c p p' q' after h here like flows ok others = record {
  steps = h.steps;
  steps_of = h.steps_of;
  updates = h.updates;
  states = h.states;
  states_of = h.states_of;
  opened = h.opened;
  pair = λ i q there. by i q (at_set s.cpus c p' i q there);
  stands = cpu_turned m s.writes s.cpus s.states t.forms t.passed after s.opened c p' h.stands ok others;
}
  where
    by : (i : ℕ) (q : Cpu) → AtSet s.cpus c p' i q → CpuPair m (slice_set t.procs c q') i q
    by i q (at_it same is) =
        let old = h.pair c p here in
        record {
          proc = q';
          here = ap (λ (k : ℕ). slice_get (slice_set t.procs c q') k) same ∙ set_there t.procs c q' old.proc old.here;
          like = subst (λ (x : Cpu). IsLike x.state.trapped x.state.proc q') (sym is) like;
          flows = flows;
        }
    by i q (beside_it other there) =
        let old = h.pair i q there in
        record { proc = old.proc; here = slice_get-set_other t.procs c i q' other ∙ old.here; like = old.like; flows = old.flows }

-- a processor that is set to what it is
pub set_self : {X : Type 0} (xs : List X) (i : ℕ) (x : X) → slice_get xs i ≡ Some x → slice_set xs i x ≡ xs
set_self xs i x here = ap (λ y. slice_set xs i y) (sym (get_or_from_slice_get xs i x x here)) ∙ set-get_or xs i x

-- ---- a processor that serialises

-- breakpoints that it knew of stand now, as do those that are given
pub cpu_marked : (m : Module) (ws : List Write) (cpus : List Cpu) (states : States) (forms : ℕ → Form) (passed after : List (ℕ × ℕ)) (u : Walk) (c : ℕ) (p : Cpu) (q : CpuState) → IsAccepted m → AreStatesOf m states → (o : Opened m ws cpus states forms passed u) → slice_get cpus c ≡ Some p → q.trapped ≡ false → ((k : Change) → Contains u.chunk k → has_passed after c k.at ≡ true → count (slice_index_or u.took c false) o.place.r ≡ 0 → (byte (start m) ws p.mark k.at ≡ 0xcc) ⊎ (written ws (start m) k.at ≡ 0xcc)) → ((k : Change) → Contains (joined u.later) k → has_passed after c k.at ≡ true → ⊥) → CpuFacts (start m) ws o.place.past u.chunk (joined u.later) after c (slice_index_or u.took c false) (count (slice_index_or u.took c false) o.place.r) (record { state = q; mark = length ws })
cpu_marked m ws cpus states forms passed after u c p q accepted now o here free known not_yet =
    let long = ap length o.place.writes ∙ length-append o.place.past o.place.done in
    record {
      from = omega (arith, long);
      to = omega arith;
      current = λ _. omega arith;
      trap = λ trapped. (let clash : true ≡ false = sym trapped ∙ free in absurd (cc));
      as_new = λ k has new none. byte_last (start m) ws (length ws) k.at (omega arith) ∙ by k has none (known k has new none);
      not_yet = not_yet;
    }
  where
    by : (k : Change) → Contains u.chunk k → count (slice_index_or u.took c false) o.place.r ≡ 0 → (byte (start m) ws p.mark k.at ≡ 0xcc) ⊎ (written ws (start m) k.at ≡ 0xcc) → written ws (start m) k.at ≡ 0xcc
    by k has none (inr set) = set
    by k has none (inl marked) =
        let f = o.cpus_are.each c p here in
        let first = count_zero (slice_index_or u.took c false) o.place.r none in
        let split : round 0 u.chunk ≡ o.place.done ++ o.place.todo = ap (λ (r : ℕ). round r u.chunk) (sym first.1) ∙ o.place.split in
        sym (byte_last (start m) ws (length ws) k.at (omega arith))
        ∙ ap (λ (xs : List Write). byte (start m) xs (length ws) k.at) o.place.writes
        ∙ trap_stays (start m) o.place.past o.place.done o.place.todo u.chunk k p.mark (length ws)
        (poked m states u.changes o.finished u.chunk (joined u.later) accepted now o.parts) split has f.from f.to
        (ap (λ (xs : List Write). byte (start m) xs p.mark k.at) (sym o.place.writes) ∙ marked)

-- ---- a turn is used

used_of-commutes : (again : Bool) (s : State) (rest : List ScriptStep) (c : ℕ) (p : Cpu) → with_cpu (if again then record s { steps = rest; turns = 0 } else record s { turns = s.turns + 1 }) c p ≡ (if again then record (with_cpu s c p) { steps = rest; turns = 0 } else record (with_cpu s c p) { turns = s.turns + 1 })
used_of-commutes true s rest c p = refl
used_of-commutes false s rest c p = refl

used_at-commutes : (s : State) (opened : Option Walk) (steps : List ScriptStep) (c : ℕ) (p : Cpu) → with_cpu (used_at s opened steps) c p ≡ used_at (with_cpu s c p) opened steps
used_at-commutes s (Some w) steps c p = refl
used_at-commutes s None [] c p = refl
used_at-commutes s None (step.Update command ∷ rest) c p = refl
used_at-commutes s None (step.Run turns ∷ rest) c p = used_of-commutes (s.turns + 1 == turns) s rest c p
used_at-commutes s None (step.Drop place ∷ rest) c p = refl

pub used-commutes : (s : State) (c : ℕ) (p : Cpu) → with_cpu (used s) c p ≡ used (with_cpu s c p)
used-commutes s c p = used_at-commutes s s.opened s.steps c p

related_used_of : (m : Module) (s : State) (t : Switching) (again : Bool) (turns : ℕ) (rest : List ScriptStep) → s.opened ≡ None → s.steps ≡ step.Run turns ∷ rest → Related m s t → Related m (if again then record s { steps = rest; turns = 0 } else record s { turns = s.turns + 1 }) t
related_used_of m s t true turns rest closed is h = record {
  steps =
      h.steps
      ∙ ap (λ (opened : Option Walk). without_runs (steps_left opened s.steps)) closed
      ∙ ap (λ (steps : List ScriptStep). without_runs steps) is
      ∙ ap (λ (opened : Option Walk). without_runs (steps_left opened rest)) (sym closed);
  steps_of = All-tail (IsStepOf m) (step.Run turns) rest (subst (λ (steps : List ScriptStep). All (IsStepOf m) steps) is h.steps_of);
  updates = h.updates;
  states = h.states;
  states_of = h.states_of;
  opened = h.opened;
  pair = h.pair;
  stands = h.stands;
}
related_used_of m s t false turns rest closed is h = record {
  steps = h.steps;
  steps_of = h.steps_of;
  updates = h.updates;
  states = h.states;
  states_of = h.states_of;
  opened = h.opened;
  pair = h.pair;
  stands = h.stands;
}

related_used_at : (m : Module) (s : State) (t : Switching) (opened : Option Walk) (steps : List ScriptStep) → s.opened ≡ opened → s.steps ≡ steps → Related m s t → Related m (used_at s opened steps) t
related_used_at m s t (Some w) steps opened_is is h = h
related_used_at m s t None [] opened_is is h = h
related_used_at m s t None (step.Update command ∷ rest) opened_is is h = h
related_used_at m s t None (step.Run turns ∷ rest) opened_is is h = related_used_of m s t (s.turns + 1 == turns) turns rest opened_is is h
related_used_at m s t None (step.Drop place ∷ rest) opened_is is h = h

pub related_used : (m : Module) (s : State) (t : Switching) → Related m s t → Related m (used s) t
related_used m s t h = related_used_at m s t s.opened s.steps refl refl h

-- a processor changes, and a turn is used
pub related_turn : (m : Module) (s : State) (t : Switching) (c : ℕ) (p p' : Cpu) (q' : Proc) (after : List (ℕ × ℕ)) (h : Related m s t) → slice_get s.cpus c ≡ Some p → IsLike p'.state.trapped p'.state.proc q' → Flows (layout_of m) q' → CpuOk m s.writes s.cpus s.states t.forms t.passed s.opened h.stands after c p' → OthersSame t.passed after c → Related m (with_cpu (used s) c p') (record t { procs = slice_set t.procs c q'; passed = after })
related_turn m s t c p p' q' after h here like flows ok others =
    subst (λ (x : State). Related m x (record t { procs = slice_set t.procs c q'; passed = after })) (sym (used-commutes s c p'))
    (related_used m (with_cpu s c p') (record t { procs = slice_set t.procs c q'; passed = after })
    (related_cpu m s t c p p' q' after h here like flows ok others))
