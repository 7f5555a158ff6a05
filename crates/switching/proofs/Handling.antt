-- The handler does the new form of the site whose breakpoint was hit.
use Rattle.std.proofs.Common.{◌≡◌, ◌∙◌, ◌+◌, ◌<◌, ◌⊎◌, inl, inr, ℕ, Bool, true, false, List, ◌∷◌, length, Contains, Option, Some, None, slice_get, slice_index_or, refl, sym, ap, subst, arith}
use Rattle.std.proofs.lemmas.Bool.{cases_order}
use Rattle.insn_forms.specs.declared.forms.Change.{Change}
use Rattle.insn_forms.specs.declared.forms.Form.{Form}
use Rattle.insn_forms.specs.History.{byte, written}
use Rattle.insn_forms.specs.Spelling.{size}
use Rattle.insn_forms.specs.Write.{Write}
use Rattle.x64_subset.specs.declared.proc.Life.{Life}
use Rattle.x64_subset.specs.declared.proc.Life.TheVariants.{Running}
use Rattle.x64_subset.specs.declared.proc.Mark.{Mark}
use Rattle.x64_subset.specs.declared.proc.Proc.{Proc}
use Rattle.x64_subset.specs.Whole.{insn_of, whole}
use Rattle.cpu_core.specs.declared.turn.TurnKind.TheVariants as kind
use Rattle.cpu_core.specs.Turn.{CpuState, handled_turn}
use Rattle.int3_handler.specs.declared.handler.Handled.{Handled}
use Rattle.int3_handler.specs.declared.handler.Handled.TheVariants.{Emulated, NotOurs}
use Rattle.int3_handler.specs.Handler.{answer, answer_by, breakpoint_of, handled_by}
use Rattle.poke_batch.specs.Walk.{Walk, open_form}
use Rattle.key_state.specs.Changes.{AreStatesOf}
use Rattle.module_image.specs.Flows.{Flows}
use Rattle.module_image.specs.Layout.{IsStart, site_at}
use Rattle.module_image.specs.Module.{IsAccepted, Module, States, layout_of}
use Rattle.module_image.proofs.Grounds.{module_ground}
use Rattle.run_journal.specs.declared.event.Event.TheVariants.{Handle}
use Rattle.switching.specs.May.{MayTurn}
use Rattle.switching.specs.Next.{at_cpu, ran_handler, used, with_cpu}
use Rattle.switching.specs.Said.{Passes, of_cpu, said_handled, said_handler, said_mark}
use Rattle.switching.specs.State.{Cpu, State, start, text_end}
use Rattle.switching.specs.Switching.{AsNew, NeedsHandle, PassKind, Switching, at_proc, change_at, has_passed, new_pass, noted, of_proc, passes, said_pass, wanted_at}
use Rattle.switching.specs.Switching as switching
use Rattle.switching.proofs.Alike.{IsLike, IsLikeDone, like_breakpoint, like_life, whole_like}
use Rattle.switching.proofs.Fetching.{CpuOk, passed_one}
use Rattle.switching.proofs.Invariant.{CpuFacts, CpuPair, Opened, Related, Stands, count, joined, open_changes}
use Rattle.switching.proofs.Lookups.{form_there, found_there}
use Rattle.switching.proofs.Parts.{all_changed, chunk_apart, chunk_not_later, in_chunk}
use Rattle.switching.proofs.Patched.{text_below, wanted_flows}
use Rattle.switching.proofs.Turned.{cpu_marked, others_noted, related_turn}
use Rattle.switching.proofs.Turns.{Follows, is_handle}

-- a start is inside the text
pub start_inside : (m : Module) (at : ℕ) → IsAccepted m → IsStart (layout_of m) at → at < text_end m
start_inside m at accepted start = ((module_ground accepted.elf m accepted.is).swept.complete at start).1

-- what a trapped processor's handler finds: the change of a site of the open chunk, at which the other processor stands
pub data HandleIs (m : Module) (ws : List Write) (cpus : List Cpu) (states : States) (forms : ℕ → Form) (passed : List (ℕ × ℕ)) (opened : Option Walk) (st : Stands m ws cpus states forms passed opened) (c : ℕ) (p : Cpu) (at : ℕ) : Type 0 where
  handles :
      (k : Change) (n : ℕ) → k.at ≡ at → change_at (open_changes opened) at ≡ Some k → open_form opened at ≡ Some (k.new, size k.new)
      → site_at m.sites at ≡ Some n → k.new ≡ wanted_at m states at
      → ((q : CpuState) → q.trapped ≡ false → CpuOk m ws cpus states forms passed opened st ((c, at) ∷ passed) c (record { state = q; mark = length ws }))
      → HandleIs m ws cpus states forms passed opened st c p at

handle_chunk : (m : Module) (ws : List Write) (cpus : List Cpu) (states : States) (forms : ℕ → Form) (passed : List (ℕ × ℕ)) (u : Walk) (accepted : IsAccepted m) → AreStatesOf m states → (o : Opened m ws cpus states forms passed u) (c : ℕ) (p : Cpu) → slice_get cpus c ≡ Some p → (k : Change) → Contains u.chunk k → (count (slice_index_or u.took c false) o.place.r ≡ 0 → written ws (start m) k.at ≡ 0xcc) → HandleIs m ws cpus states forms passed (Some u) o c p k.at
handle_chunk m ws cpus states forms passed u accepted now o c p here k has set =
    let in_all = in_chunk m states u.changes o.finished u.chunk (joined u.later) accepted now o.parts k has in
    let change = all_changed m states u.changes o.finished u.chunk (joined u.later) accepted now o.parts k in_all in
    let facts = o.cpus_are.each c p here in
    handles k change.number refl (found_there u.changes k o.parts.apart in_all)
    (form_there u.chunk k (chunk_apart m states u.changes o.finished u.chunk (joined u.later) accepted now o.parts) has)
    change.found change.new
    (λ q free. cpu_marked m ws cpus states forms passed ((c, k.at) ∷ passed) u c p q accepted now o here free
    (λ l also new none. known facts l also none new (cases_order l.at k.at))
    (λ l also new. facts.not_yet l also (passed_one passed c k.at l.at (λ same. chunk_not_later m states u.changes o.finished u.chunk (joined u.later) accepted now o.parts k l has also (sym same)) new)))
  where
    known : CpuFacts (start m) ws o.place.past u.chunk (joined u.later) passed c (slice_index_or u.took c false) (count (slice_index_or u.took c false) o.place.r) p → (l : Change) → Contains u.chunk l → count (slice_index_or u.took c false) o.place.r ≡ 0 → has_passed ((c, k.at) ∷ passed) c l.at ≡ true → (l.at ≡ k.at) ⊎ ((l.at < k.at) ⊎ (k.at < l.at)) → (byte (start m) ws p.mark l.at ≡ 0xcc) ⊎ (written ws (start m) l.at ≡ 0xcc)
    known facts l also none new (inl same) = inr (ap (λ (a : ℕ). written ws (start m) a) same ∙ set none)
    known facts l also none new (inr (inl less)) = inl (facts.as_new l also (passed_one passed c k.at l.at (λ same. absurd (omega (arith, same, less))) new) none)
    known facts l also none new (inr (inr more)) = inl (facts.as_new l also (passed_one passed c k.at l.at (λ same. absurd (omega (arith, same, more))) new) none)

handle_is : (m : Module) (ws : List Write) (cpus : List Cpu) (states : States) (forms : ℕ → Form) (passed : List (ℕ × ℕ)) (opened : Option Walk) (accepted : IsAccepted m) → AreStatesOf m states → (st : Stands m ws cpus states forms passed opened) (c : ℕ) (p : Cpu) → slice_get cpus c ≡ Some p → p.state.trapped ≡ true → (at : ℕ) → p.state.proc.ip ≡ at + 1 → HandleIs m ws cpus states forms passed opened st c p at
handle_is m ws cpus states forms passed None accepted now st c p here trapped at stands =
    let free = (st.cpus_are c p here).free in
    let clash : true ≡ false = sym trapped ∙ free in
    absurd (cc)
handle_is m ws cpus states forms passed (Some u) accepted now o c p here trapped at stands =
    let trap = (o.cpus_are.each c p here).trap trapped in
    let hit = trap.stands in
    let same : trap.change.at ≡ at = omega (arith, hit, stands) in
    subst (λ (a : ℕ). HandleIs m ws cpus states forms passed (Some u) o c p a) same
    (handle_chunk m ws cpus states forms passed u accepted now o c p here trap.change trap.has trap.set)

module _ (m : Module) (s : State) (t : Switching) (c : ℕ) (accepted : IsAccepted m) (h : Related m s t) (p : Cpu) (here : slice_get s.cpus c ≡ Some p) (q : CpuPair m t.procs c p) (runs : q.proc.life ≡ Running) (like : IsLike p.state.trapped p.state.proc q.proc) (breaks : breakpoint_of p.state.proc ≡ q.proc.ip) where
  handle_told : HandleIs m s.writes s.cpus s.states t.forms t.passed s.opened h.stands c p q.proc.ip → Follows m s t (Handle c)
  handle_told (handles k n begins changes_it forms_it found wanted ok) =
      let at : ℕ = q.proc.ip in
      let done : Proc × Mark = whole k.new at p.state.proc in
      let switched : Proc × Mark = whole k.new at q.proc in
      let alike : IsLikeDone done switched = whole_like k.new at p.state.trapped p.state.proc q.proc like in
      let form_is : open_form s.opened (breakpoint_of p.state.proc) ≡ Some (k.new, size k.new) = ap (λ (a : ℕ). open_form s.opened a) breaks ∙ forms_it in
      let state : CpuState = record { proc = done.0; trapped = false } in
      let turned : handled_turn s.opened p.state ≡ state =
      ap (λ (o : Option (Form × ℕ)). record { proc = handled_by o (breakpoint_of p.state.proc) p.state.proc; trapped = false }) form_is
      ∙ ap (λ (a : ℕ). record { proc = (whole k.new a p.state.proc).0; trapped = false }) breaks in
      let answered : answer s.opened p.state.proc ≡ Emulated at k.new done.1 =
      ap (λ (o : Option (Form × ℕ)). answer_by o (breakpoint_of p.state.proc) p.state.proc) form_is
      ∙ ap (λ (a : ℕ). Emulated a k.new (whole k.new a p.state.proc).1) breaks in
      let changed : change_at t.opened at ≡ Some k = ap (λ (o : Option (List Change)). change_at o at) h.opened ∙ changes_it in
      let flows : Flows (layout_of m) switched.0 =
      subst (λ (form : Form). Flows (layout_of m) (whole form at q.proc).0) (sym wanted) (wanted_flows m s.states at n q.proc accepted h.states_of found q.flows runs) in
      record {
        needs = record { running = record { proc = q.proc; here = q.here; runs = runs }; change = k; is = changed };
        lines =
            ap (λ (o : Option Cpu). of_cpu o (said_handler s.opened c)) here
            ∙ ap (λ (a : Handled). said_handled c (handled_turn s.opened p.state).proc.life a) answered
            ∙ ap (λ (x : CpuState). Passes c at (insn_of k.new) ∷ said_mark c x.proc.life done.1) turned
            ∙ ap (λ (life : Life). Passes c at (insn_of k.new) ∷ said_mark c life done.1) (like_life false done.0 switched.0 alike.like)
            ∙ ap (λ (mark : Mark). Passes c at (insn_of k.new) ∷ said_mark c switched.0.life mark) alike.mark
            ∙ ap (λ (o : Option Change). said_pass c (new_pass o) q.proc) (sym changed)
            ∙ ap (λ (o : Option Proc). of_proc o (λ r. said_pass c (new_pass (change_at t.opened r.ip)) r)) (sym q.here);
        kept =
            subst (λ (o : Option Cpu). Related m (at_cpu o s (ran_handler s c)) (switching.next m t (Handle c))) (sym here)
            (subst (λ (o : Option Proc). Related m (ran_handler s c p) (at_proc o t (λ r. passes t c (new_pass (change_at t.opened r.ip)) r))) (sym q.here)
            (subst (λ (o : Option Change). Related m (ran_handler s c p) (passes t c (new_pass o) q.proc)) (sym changed)
            (subst (λ (x : CpuState). Related m (with_cpu (used s) c (record { state = x; mark = length s.writes })) (passes t c (AsNew k.new) q.proc)) (sym turned)
            (related_turn m s t c p (record { state = state; mark = length s.writes }) switched.0 ((c, at) ∷ t.passed) h here alike.like flows (ok state refl) (others_noted (AsNew k.new) c at t.passed)))));
      }

-- where a trapped processor's pair stands, and what its handler finds
pub record IsHandled (m : Module) (s : State) (t : Switching) (c : ℕ) (h : Related m s t) (p : Cpu) (q : CpuPair m t.procs c p) : Type 0 where
  pub runs : q.proc.life ≡ Running
  pub breaks : breakpoint_of p.state.proc ≡ q.proc.ip
  pub is : HandleIs m s.writes s.cpus s.states t.forms t.passed s.opened h.stands c p q.proc.ip

pub handled_there : (m : Module) (s : State) (t : Switching) (c : ℕ) → IsAccepted m → (h : Related m s t) (may : MayTurn m s c kind.Handle) → IsHandled m s t c h may.cpu (h.pair c may.cpu may.here)
handled_there m s t c accepted h may =
    let p = may.cpu in
    let here = may.here in
    let told = is_handle m p.state.trapped p.state.proc.ip p.state.proc.life may.is in
    let q = h.pair c p here in
    let like : IsLike true p.state.proc q.proc = subst (λ (b : Bool). IsLike b p.state.proc q.proc) told.1 q.like in
    let past = like.past refl in
    let stands = past.1 in
    let inside = start_inside m q.proc.ip accepted (q.flows.stands past.0) in
    let below = text_below m accepted in
    let on : p.state.proc.ip ≡ q.proc.ip + 1 = omega (arith, stands, inside, below) in
    record {
      runs = past.0;
      breaks = like_breakpoint p.state.proc q.proc like (omega (arith, inside, below));
      is = handle_is m s.writes s.cpus s.states t.forms t.passed s.opened accepted h.states_of h.stands c p here told.1 q.proc.ip on;
    }

pub follows_handle : (m : Module) (s : State) (t : Switching) (c : ℕ) → IsAccepted m → Related m s t → MayTurn m s c kind.Handle → Follows m s t (Handle c)
follows_handle m s t c accepted h may =
    let q = h.pair c may.cpu may.here in
    let there = handled_there m s t c accepted h may in
    handle_told m s t c accepted h may.cpu may.here q there.runs q.like there.breaks there.is

-- no breakpoint is anybody else's
pub handle_ours : (m : Module) (s : State) (t : Switching) (c : ℕ) → IsAccepted m → Related m s t → (may : MayTurn m s c kind.Handle) → answer s.opened may.cpu.state.proc ≡ NotOurs → ⊥
handle_ours m s t c accepted h may not_ours = by there.is
  where
    p : Cpu
    p = may.cpu

    q : CpuPair m t.procs c p
    q = h.pair c p may.here

    there : IsHandled m s t c h p q
    there = handled_there m s t c accepted h may

    by : HandleIs m s.writes s.cpus s.states t.forms t.passed s.opened h.stands c p q.proc.ip → ⊥
    by (handles k n begins changes_it forms_it found wanted ok) =
        let form_is : open_form s.opened (breakpoint_of p.state.proc) ≡ Some (k.new, size k.new) = ap (λ (a : ℕ). open_form s.opened a) there.breaks ∙ forms_it in
        let answered : answer s.opened p.state.proc ≡ Emulated (breakpoint_of p.state.proc) k.new (whole k.new (breakpoint_of p.state.proc) p.state.proc).1 =
        ap (λ (o : Option (Form × ℕ)). answer_by o (breakpoint_of p.state.proc) p.state.proc) form_is in
        let clash = sym answered ∙ not_ours in
        absurd (cc)
