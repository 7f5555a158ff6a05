-- The turns of processors: at a plain instruction, at a patched site, in the handler, and of one that has ended.
use Rattle.std.proofs.Common.{◌≡◌, ◌∙◌, ◌+◌, inl, ℕ, Bool, true, false, if◌then◌else◌, List, [], ◌∷◌, length, Option, Some, None, Result, slice_get, slice_set, slice_index_or, refl, sym, ap, subst, arith}
use Rattle.insn_forms.specs.declared.forms.Change.{Change}
use Rattle.insn_forms.specs.declared.forms.Form.{Form}
use Rattle.insn_forms.specs.declared.forms.Form.TheVariants.{Nop2, Nop5, Jmp8, Jmp32, Call, Ret}
use Rattle.insn_forms.specs.Spelling.{after}
use Rattle.insn_forms.specs.Write.{Write}
use Rattle.x64_subset.specs.declared.insn.Insn.{Insn}
use Rattle.x64_subset.specs.declared.insn.Undecoded.{Undecoded}
use Rattle.x64_subset.specs.declared.proc.Life.{Life}
use Rattle.x64_subset.specs.declared.proc.Life.TheVariants.{Running, Done, Halted, Fault}
use Rattle.x64_subset.specs.declared.proc.Mark.{Mark}
use Rattle.x64_subset.specs.declared.proc.Proc.{Proc}
use Rattle.x64_subset.specs.Effect.{at_ip, does}
use Rattle.x64_subset.specs.Whole.{insn_of, name, whole}
use Rattle.cpu_core.specs.declared.turn.Stepped.{Stepped}
use Rattle.cpu_core.specs.declared.turn.Stepped.TheVariants.{Pass, Trapped}
use Rattle.cpu_core.specs.declared.turn.TurnKind.TheVariants as kind
use Rattle.cpu_core.specs.Turn.{CpuState, at_answer, at_turn, insn_answer, insn_turn, kind_by, plain_answer, plain_here, plain_proc, plain_serialises, plain_turn, read_answer, read_turn, standing}
use Rattle.poke_batch.specs.Walk.{Walk}
use Rattle.key_state.specs.Changes.{AreStatesOf}
use Rattle.module_image.specs.Flows.{Flows}
use Rattle.module_image.specs.Layout.{site_at}
use Rattle.module_image.specs.Module.{IsAccepted, Module, States, layout_of, plain_at}
use Rattle.module_image.proofs.PlainFlows.{plain_flows}
use Rattle.run_journal.specs.declared.event.Event.{Event}
use Rattle.run_journal.specs.declared.event.Event.TheVariants.{Plain, Tick}
use Rattle.switching.specs.May.{MayAt, MayTurn}
use Rattle.switching.specs.Next.{at_cpu, marked, next, ran_plain, ran_site, used, with_cpu}
use Rattle.switching.specs.Said.{Passes, of_cpu, said, said_stepped, said_mark, said_plain, said_site}
use Rattle.switching.specs.State.{Cpu, State}
use Rattle.switching.specs.Switching.{AsNew, AsOld, IsInOrder, IsRunning, Needs, NeedsAt, NeedsHandle, NeedsPass, NeedsPlain, PassKind, Switching, Unchanged, at_proc, change_at, form_of, has_passed, is_breakpoint, new_pass, noted, of_proc, pass_by, pass_of, passes, plain_done, said_done, said_pass, wanted_at, with_proc}
use Rattle.switching.specs.Switching as switching
use Rattle.switching.proofs.Alike.{IsLike, like_same, like_self, whole_here}
use Rattle.switching.proofs.Fetching.{AtIs, does_form, hits, CpuOk, at_site, cpu_passed}
use Rattle.switching.proofs.Invariant.{CpuPair, Related, Stands, count, joined}
use Rattle.switching.proofs.NamedBytes.{is_breakpoint_not, is_breakpoint_so}
use Rattle.switching.proofs.Names.{name_length, name_read, trap_read}
use Rattle.switching.proofs.Patched.{plain_there, site_of, text_below, wanted_flows}
use Rattle.switching.proofs.Turned.{cpu_marked, others_noted, related_turn, related_used, set_self}

-- an event of both machines: the switching machine is defined at it, shows the same lines, and the states stay related
pub record Follows (m : Module) (s : State) (t : Switching) (e : Event) : Type 0 where
  pub needs : Needs m t e
  pub lines : said m s e ≡ switching.said m t e
  pub kept : Related m (next m s e) (switching.next m t e)

-- the same, by the bytes that are fetched
pub record FollowsAt (m : Module) (s : State) (t : Switching) (c : ℕ) (bytes : List ℕ) : Type 0 where
  pub needs : NeedsAt (is_breakpoint bytes) m t c bytes
  pub lines :
      of_cpu (slice_get s.cpus c) (said_site c bytes)
      ≡ (if is_breakpoint bytes then [] else of_proc (slice_get t.procs c) (λ r. said_pass c (pass_of t r.ip bytes) r))
  pub kept :
      Related m (at_cpu (slice_get s.cpus c) s (ran_site s c bytes))
      (if is_breakpoint bytes then t else at_proc (slice_get t.procs c) t (λ r. passes t c (pass_of t r.ip bytes) r))

-- ---- which turn it is

standing_at : (o : Option ℕ) → standing o ≡ kind.At → (n : ℕ) × (o ≡ Some n)
standing_at None e = absurd (cc)
standing_at (Some n) e = (n, refl)

standing_plain : (o : Option ℕ) → standing o ≡ kind.Plain → o ≡ None
standing_plain None e = refl
standing_plain (Some n) e = absurd (cc)

standing_handle : (o : Option ℕ) → standing o ≡ kind.Handle → ⊥
standing_handle None e = cc
standing_handle (Some n) e = cc

running_at : (trapped : Bool) (o : Option ℕ) → (if trapped then kind.Handle else standing o) ≡ kind.At → (trapped ≡ false) × (n : ℕ) × (o ≡ Some n)
running_at true o e = absurd (cc)
running_at false o e = (refl, (standing_at o e).0, (standing_at o e).1)

running_plain : (trapped : Bool) (o : Option ℕ) → (if trapped then kind.Handle else standing o) ≡ kind.Plain → (trapped ≡ false) × (o ≡ None)
running_plain true o e = absurd (cc)
running_plain false o e = (refl, standing_plain o e)

running_handle : (trapped : Bool) (o : Option ℕ) → (if trapped then kind.Handle else standing o) ≡ kind.Handle → trapped ≡ true
running_handle true o e = refl
running_handle false o e = absurd (standing_handle o e)

pub is_at : (m : Module) (trapped : Bool) (ip : ℕ) (life : Life) → kind_by m trapped ip life ≡ kind.At → (life ≡ Running) × (trapped ≡ false) × (n : ℕ) × (site_at m.sites ip ≡ Some n)
is_at m trapped ip Running e = (let told = running_at trapped (site_at m.sites ip) e in (refl, told.0, told.1, told.2))
is_at m trapped ip Done e = absurd (cc)
is_at m trapped ip Halted e = absurd (cc)
is_at m trapped ip (Fault why) e = absurd (cc)

pub is_plain : (m : Module) (trapped : Bool) (ip : ℕ) (life : Life) → kind_by m trapped ip life ≡ kind.Plain → (life ≡ Running) × (trapped ≡ false) × (site_at m.sites ip ≡ None)
is_plain m trapped ip Running e = (let told = running_plain trapped (site_at m.sites ip) e in (refl, told.0, told.1))
is_plain m trapped ip Done e = absurd (cc)
is_plain m trapped ip Halted e = absurd (cc)
is_plain m trapped ip (Fault why) e = absurd (cc)

pub is_handle : (m : Module) (trapped : Bool) (ip : ℕ) (life : Life) → kind_by m trapped ip life ≡ kind.Handle → (life ≡ Running) × (trapped ≡ true)
is_handle m trapped ip Running e = (refl, running_handle trapped (site_at m.sites ip) e)
is_handle m trapped ip Done e = absurd (cc)
is_handle m trapped ip Halted e = absurd (cc)
is_handle m trapped ip (Fault why) e = absurd (cc)

-- ---- what a form does at its site

form_turn : (form : Form) (len : ℕ) (c : CpuState) → insn_turn (insn_of form) len c ≡ record c { proc = (does (insn_of form) len c.proc).0 }
form_turn Nop2 len c = refl
form_turn Nop5 len c = refl
form_turn (Jmp8 target) len c = refl
form_turn (Jmp32 target) len c = refl
form_turn (Call target) len c = refl
form_turn Ret len c = refl

form_answer : (form : Form) (len : ℕ) (p : Proc) → insn_answer (insn_of form) len p ≡ Pass p.ip (insn_of form) (does (insn_of form) len p).1
form_answer Nop2 len p = refl
form_answer Nop5 len p = refl
form_answer (Jmp8 target) len p = refl
form_answer (Jmp32 target) len p = refl
form_answer (Call target) len p = refl
form_answer Ret len p = refl

pub pass_turn : (form : Form) (c : CpuState) (bytes : List ℕ) → name form c.proc.ip ≡ Some bytes → at_turn bytes c ≡ record c { proc = (whole form c.proc.ip c.proc).0 }
pass_turn form c bytes named =
    ap (λ (r : Result (Insn × ℕ) Undecoded). read_turn r c) (name_read form c.proc.ip bytes named)
    ∙ form_turn form (length bytes) c
    ∙ ap (λ (n : ℕ). record c { proc = (does (insn_of form) n c.proc).0 }) (name_length form c.proc.ip bytes named)
    ∙ ap (λ (r : Proc × Mark). record c { proc = r.0 }) (sym (whole_here form c.proc))

pub pass_answer : (form : Form) (c : CpuState) (bytes : List ℕ) → name form c.proc.ip ≡ Some bytes → at_answer bytes c ≡ Pass c.proc.ip (insn_of form) (whole form c.proc.ip c.proc).1
pass_answer form c bytes named =
    ap (λ (r : Result (Insn × ℕ) Undecoded). read_answer r c.proc) (name_read form c.proc.ip bytes named)
    ∙ form_answer form (length bytes) c.proc
    ∙ ap (λ (n : ℕ). Pass c.proc.ip (insn_of form) (does (insn_of form) n c.proc).1) (name_length form c.proc.ip bytes named)
    ∙ ap (λ (r : Proc × Mark). Pass c.proc.ip (insn_of form) r.1) (sym (whole_here form c.proc))

-- and what a breakpoint does
pub trap_turn : (c : CpuState) (bytes : List ℕ) → bytes ≡ 0xcc ∷ [] → at_turn bytes c ≡ record c { proc = record c.proc { ip = after c.proc.ip 1 }; trapped = true }
trap_turn c bytes is =
    ap (λ (bs : List ℕ). at_turn bs c) is ∙ ap (λ (r : Result (Insn × ℕ) Undecoded). read_turn r c) (trap_read c.proc.ip)

pub trap_answer : (c : CpuState) (bytes : List ℕ) → bytes ≡ 0xcc ∷ [] → at_answer bytes c ≡ Trapped
trap_answer c bytes is =
    ap (λ (bs : List ℕ). at_answer bs c) is ∙ ap (λ (r : Result (Insn × ℕ) Undecoded). read_answer r c.proc) (trap_read c.proc.ip)

-- ---- at a patched site

module _ (m : Module) (s : State) (t : Switching) (c : ℕ) (accepted : IsAccepted m) (h : Related m s t) (p : Cpu) (here : slice_get s.cpus c ≡ Some p) where
  abbrev q_of : CpuPair m t.procs c p
  q_of = h.pair c p here

  abbrev passes_as : PassKind → Switching
  passes_as passing = record t { procs = slice_set t.procs c (whole (form_of passing) p.state.proc.ip p.state.proc).0; passed = noted passing c p.state.proc.ip t.passed }

  abbrev after_trap : CpuState → CpuState
  after_trap q = record q { proc = record q.proc { ip = after q.proc.ip 1 }; trapped = true }

  -- a breakpoint is hit
  at_hit : (bytes : List ℕ) (n : ℕ) → p.state.proc.life ≡ Running → p.state.proc ≡ q_of.proc → site_at m.sites p.state.proc.ip ≡ Some n → bytes ≡ 0xcc ∷ [] → ((q : CpuState) → q.proc.ip ≡ p.state.proc.ip + 1 → CpuOk m s.writes s.cpus s.states t.forms t.passed s.opened h.stands t.passed c (record p { state = q })) → Related m (ran_site s c bytes p) t
  at_hit bytes n runs same is trap ok =
      let q = q_of in
      let there = site_of m p.state.proc.ip n accepted is in
      let below = text_below m accepted in
      let to = there.to in
      let long = there.two_or_five in
      let past : after p.state.proc.ip 1 ≡ p.state.proc.ip + 1 = omega (arith, to, long, below) in
      let turned : at_turn bytes p.state ≡ after_trap p.state = trap_turn p.state bytes trap in
      let like : IsLike true (after_trap p.state).proc q.proc = record {
        same = ap (λ (r : Proc). at_ip (after p.state.proc.ip 1) r) same;
        there = λ free. absurd (cc);
        past = λ _. (ap (λ (r : Proc). r.life) (sym same) ∙ runs, ap (λ (r : Proc). after r.ip 1) same);
      } in
      subst (λ (x : CpuState). Related m (with_cpu (used s) c (record p { state = x })) t) (sym turned)
      (subst (λ (procs : List Proc). Related m (with_cpu (used s) c (record p { state = after_trap p.state })) (record t { procs = procs }))
      (set_self t.procs c q.proc q.here)
      (related_turn m s t c p (record p { state = after_trap p.state }) q.proc t.passed h here like q.flows (ok (after_trap p.state) past) (λ i at other. refl)))

  -- a form is done
  at_form : (bytes : List ℕ) (n : ℕ) (passing : PassKind) (of : States) → p.state.proc.life ≡ Running → p.state.trapped ≡ false → p.state.proc ≡ q_of.proc → site_at m.sites p.state.proc.ip ≡ Some n → name (form_of passing) p.state.proc.ip ≡ Some bytes → AreStatesOf m of → form_of passing ≡ wanted_at m of p.state.proc.ip → ((q : CpuState) → q.trapped ≡ false → CpuOk m s.writes s.cpus s.states t.forms t.passed s.opened h.stands (noted passing c p.state.proc.ip t.passed) c (record p { state = q })) → Related m (ran_site s c bytes p) (passes_as passing)
  at_form bytes n passing of runs free same is named of_states wanted ok =
      let ip : ℕ = p.state.proc.ip in
      let state : CpuState = record p.state { proc = (whole (form_of passing) ip p.state.proc).0 } in
      let turned : at_turn bytes p.state ≡ state = pass_turn (form_of passing) p.state bytes named in
      let flows : Flows (layout_of m) (whole (form_of passing) ip p.state.proc).0 =
      subst (λ (form : Form). Flows (layout_of m) (whole form ip p.state.proc).0) (sym wanted)
      (wanted_flows m of ip n p.state.proc accepted of_states is (subst (λ (r : Proc). Flows (layout_of m) r) (sym same) q_of.flows) runs) in
      let like : IsLike p.state.trapped (whole (form_of passing) ip p.state.proc).0 (whole (form_of passing) ip p.state.proc).0 =
      subst (λ (b : Bool). IsLike b (whole (form_of passing) ip p.state.proc).0 (whole (form_of passing) ip p.state.proc).0) (sym free) (like_self (whole (form_of passing) ip p.state.proc).0) in
      subst (λ (x : CpuState). Related m (with_cpu (used s) c (record p { state = x })) (passes_as passing)) (sym turned)
      (related_turn m s t c p (record p { state = state }) (whole (form_of passing) ip p.state.proc).0 (noted passing c ip t.passed) h here like flows (ok state free) (others_noted passing c ip t.passed))

  -- the event, by the bytes that are fetched
  abbrev next_at : List ℕ → Switching
  next_at bytes = if is_breakpoint bytes then t else at_proc (slice_get t.procs c) t (λ r. passes t c (pass_of t r.ip bytes) r)

  at_told : (bytes : List ℕ) (n : ℕ) → p.state.proc.life ≡ Running → p.state.trapped ≡ false → site_at m.sites p.state.proc.ip ≡ Some n → p.state.proc ≡ q_of.proc → AtIs m s.writes s.cpus s.states t.forms t.passed s.opened h.stands c p p.state.proc.ip bytes → FollowsAt m s t c bytes
  at_told bytes n runs free is same (hits trap ok) =
      let stop : is_breakpoint bytes ≡ true = is_breakpoint_so bytes trap in
      record {
        needs = subst (λ (b : Bool). NeedsAt b m t c bytes) (sym stop) tt;
        lines =
            ap (λ (o : Option Cpu). of_cpu o (said_site c bytes)) here
            ∙ ap (λ (a : Stepped). said_stepped c (at_turn bytes p.state).proc.life a) (trap_answer p.state bytes trap)
            ∙ ap (λ (b : Bool). if b then [] else of_proc (slice_get t.procs c) (λ r. said_pass c (pass_of t r.ip bytes) r)) (sym stop);
        kept =
            subst (λ (o : Option Cpu). Related m (at_cpu o s (ran_site s c bytes)) (next_at bytes)) (sym here)
            (subst (λ (b : Bool). Related m (ran_site s c bytes p) (if b then t else at_proc (slice_get t.procs c) t (λ r. passes t c (pass_of t r.ip bytes) r))) (sym stop)
            (at_hit bytes n runs same is trap ok));
      }
  at_told bytes n runs free is same (does_form passing kind_is named in_order of of_states wanted ok) =
      let on : is_breakpoint bytes ≡ false = is_breakpoint_not (form_of passing) p.state.proc.ip bytes named in
      let there : slice_get t.procs c ≡ Some p.state.proc = q_of.here ∙ ap (λ (r : Proc). Some r) (sym same) in
      let as_kind : pass_of t p.state.proc.ip bytes ≡ passing =
      ap (λ (o : Option (List Change)). pass_by (change_at o p.state.proc.ip) (t.forms p.state.proc.ip) p.state.proc.ip bytes) h.opened ∙ kind_is in
      record {
        needs = subst (λ (b : Bool). NeedsAt b m t c bytes) (sym on) (record {
          running = record { proc = p.state.proc; here = there; runs = runs };
          site = n;
          is = is;
          named = ap (λ (k : PassKind). name (form_of k) p.state.proc.ip) as_kind ∙ named;
          in_order = subst (λ (k : PassKind). IsInOrder k t.passed c p.state.proc.ip) (sym as_kind) in_order;
        });
        lines =
            ap (λ (o : Option Cpu). of_cpu o (said_site c bytes)) here
            ∙ ap (λ (a : Stepped). said_stepped c (at_turn bytes p.state).proc.life a) (pass_answer (form_of passing) p.state bytes named)
            ∙ ap (λ (x : CpuState). Passes c p.state.proc.ip (insn_of (form_of passing)) ∷ said_mark c x.proc.life (whole (form_of passing) p.state.proc.ip p.state.proc).1) (pass_turn (form_of passing) p.state bytes named)
            ∙ ap (λ (k : PassKind). said_pass c k p.state.proc) (sym as_kind)
            ∙ ap (λ (o : Option Proc). of_proc o (λ r. said_pass c (pass_of t r.ip bytes) r)) (sym there)
            ∙ ap (λ (b : Bool). if b then [] else of_proc (slice_get t.procs c) (λ r. said_pass c (pass_of t r.ip bytes) r)) (sym on);
        kept =
            subst (λ (o : Option Cpu). Related m (at_cpu o s (ran_site s c bytes)) (next_at bytes)) (sym here)
            (subst (λ (b : Bool). Related m (ran_site s c bytes p) (if b then t else at_proc (slice_get t.procs c) t (λ r. passes t c (pass_of t r.ip bytes) r))) (sym on)
            (subst (λ (o : Option Proc). Related m (ran_site s c bytes p) (at_proc o t (λ r. passes t c (pass_of t r.ip bytes) r))) (sym there)
            (subst (λ (k : PassKind). Related m (ran_site s c bytes p) (passes t c k p.state.proc)) (sym as_kind)
            (at_form bytes n passing of runs free same is named of_states wanted ok))));
      }

-- a processor that isn't trapped is the same in both machines
pub same_proc : (m : Module) (t : Switching) (c : ℕ) (p : Cpu) → (q : CpuPair m t.procs c p) → p.state.trapped ≡ false → p.state.proc.life ≡ Running → p.state.proc ≡ q.proc
same_proc m t c p q free runs =
    like_same p.state.proc q.proc (subst (λ (b : Bool). IsLike b p.state.proc q.proc) free q.like) runs

pub follows_at : (m : Module) (s : State) (t : Switching) (c : ℕ) (bytes : List ℕ) → IsAccepted m → Related m s t → MayAt m s c bytes → FollowsAt m s t c bytes
follows_at m s t c bytes accepted h may =
    let p = may.turn.cpu in
    let told = is_at m p.state.trapped p.state.proc.ip p.state.proc.life may.turn.is in
    let q = h.pair c p may.turn.here in
    at_told m s t c accepted h p may.turn.here bytes told.2 told.0 told.1 told.3 (same_proc m t c p q told.1 told.0)
    (at_site m s.writes s.cpus s.states t.forms t.passed s.opened accepted h.states_of h.stands c p may.turn.here p.state.proc.ip told.2 bytes told.3 may.fetch may.stood)

-- ---- at a plain instruction

-- what the processor owes, whether it serialises or not
plain_ok : (m : Module) (ws : List Write) (cpus : List Cpu) (states : States) (forms : ℕ → Form) (passed : List (ℕ × ℕ)) (opened : Option Walk) (c : ℕ) (p : Cpu) (q : CpuState) (serialises : Bool) → IsAccepted m → AreStatesOf m states → (st : Stands m ws cpus states forms passed opened) → slice_get cpus c ≡ Some p → q.trapped ≡ false → CpuOk m ws cpus states forms passed opened st passed c (record { state = q; mark = if serialises then length ws else p.mark })
plain_ok m ws cpus states forms passed None c p q true accepted now st here free = (record { free = free; mark = refl }, st.nobody)
plain_ok m ws cpus states forms passed None c p q false accepted now st here free = (record { free = free; mark = (st.cpus_are c p here).mark }, st.nobody)
plain_ok m ws cpus states forms passed (Some u) c p q true accepted now o here free =
    let f = o.cpus_are.each c p here in
    cpu_marked m ws cpus states forms passed passed u c p q accepted now o here free (λ k has new none. inl (f.as_new k has new none)) f.not_yet
plain_ok m ws cpus states forms passed (Some u) c p q false accepted now o here free =
    let f = o.cpus_are.each c p here in
    cpu_passed m ws o.place.past u.chunk (joined u.later) passed passed c (slice_index_or u.took c false) (count (slice_index_or u.took c false) o.place.r) p q free f f.as_new f.not_yet

pub follows_plain : (m : Module) (s : State) (t : Switching) (c : ℕ) → IsAccepted m → Related m s t → MayTurn m s c kind.Plain → Follows m s t (Plain c)
follows_plain m s t c accepted h may =
    let p = may.cpu in
    let here = may.here in
    let told = is_plain m p.state.trapped p.state.proc.ip p.state.proc.life may.is in
    let q = h.pair c p here in
    let same : p.state.proc ≡ q.proc = same_proc m t c p q told.1 told.0 in
    let there : slice_get t.procs c ≡ Some p.state.proc = q.here ∙ ap (λ (r : Proc). Some r) (sym same) in
    let flows : Flows (layout_of m) p.state.proc = subst (λ (r : Proc). Flows (layout_of m) r) (sym same) q.flows in
    let insn = plain_there m p.state.proc accepted flows told.0 told.2 in
    let done : Proc × Mark = does insn.insn insn.len p.state.proc in
    let turned : plain_turn m p.state ≡ record p.state { proc = done.0 } = ap (λ (o : Option (Insn × ℕ)). record p.state { proc = plain_proc o p.state.proc }) insn.is in
    let p' : Cpu = record { state = plain_turn m p.state; mark = marked (plain_serialises (plain_here m p.state)) s p.mark } in
    let proc_is : (plain_turn m p.state).proc ≡ done.0 = ap (λ (x : CpuState). x.proc) turned in
    let after_flows : Flows (layout_of m) (plain_turn m p.state).proc =
    subst (λ (r : Proc). Flows (layout_of m) r) (sym proc_is) (plain_flows m p.state.proc insn.insn insn.len accepted flows told.0 insn.is) in
    let like : IsLike p.state.trapped (plain_turn m p.state).proc (plain_turn m p.state).proc =
    subst (λ (b : Bool). IsLike b (plain_turn m p.state).proc (plain_turn m p.state).proc) (sym told.1) (like_self (plain_turn m p.state).proc) in
    let switched : plain_done (plain_at m p.state.proc.ip) p.state.proc ≡ (plain_turn m p.state).proc =
    ap (λ (o : Option (Insn × ℕ)). plain_done o p.state.proc) insn.is ∙ sym proc_is in
    record {
      needs = record {
        running = record { proc = p.state.proc; here = there; runs = told.0 };
        insn = insn.insn;
        len = insn.len;
        is = insn.is;
        no_site = told.2;
      };
      lines =
          ap (λ (o : Option Cpu). of_cpu o (said_plain m c)) here
          ∙ ap (λ (o : Option (Insn × ℕ)). said_stepped c (plain_proc o p.state.proc).life (plain_answer o p.state.proc)) insn.is
          ∙ ap (λ (o : Option (Insn × ℕ)). said_done c o p.state.proc) (sym insn.is)
          ∙ ap (λ (o : Option Proc). of_proc o (λ r. said_done c (plain_at m r.ip) r)) (sym there);
      kept =
          subst (λ (o : Option Cpu). Related m (at_cpu o s (ran_plain m s c)) (switching.next m t (Plain c))) (sym here)
          (subst (λ (o : Option Proc). Related m (ran_plain m s c p) (at_proc o t (λ r. with_proc t c (plain_done (plain_at m r.ip) r)))) (sym there)
          (subst (λ (r : Proc). Related m (ran_plain m s c p) (with_proc t c r)) (sym switched)
          (related_turn m s t c p p' (plain_turn m p.state).proc t.passed h here like after_flows
          (plain_ok m s.writes s.cpus s.states t.forms t.passed s.opened c p (plain_turn m p.state) (plain_serialises (plain_here m p.state)) accepted h.states_of h.stands here told.1)
          (λ i at other. refl))));
    }

-- ---- the end

pub follows_tick : (m : Module) (s : State) (t : Switching) (c : ℕ) → Related m s t → Follows m s t (Tick c)
follows_tick m s t c h = record { needs = tt; lines = refl; kept = related_used m s t h }
