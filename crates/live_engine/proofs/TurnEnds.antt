-- What a turn makes of a processor and its seat: they are a pair afterwards.
use Rattle.std.proofs.Common.{◌≡◌, ◌≢◌, ◌↔◌, ◌+◌, ◌∙◌, ℕ, Bool, true, false, Some, refl, ap, sym, subst, arith}
use Rattle.int3_handler.specs.Handler.{breakpoint_of}
use Rattle.insn_forms.specs.declared.forms.Form.{Form}
use Rattle.insn_forms.specs.Spelling.{after}
use Rattle.live_text.specs.declared.plan.LivePlan.{LivePlan}
use Rattle.live_text.specs.declared.view.View.{View}
use Rattle.live_text.specs.Flat.{shape_of}
use Rattle.live_text.specs.Laws.{BreakpointsAreWritten, FirstBytesAreBreakpoints}
use Rattle.live_text.specs.Own.{HasByte, byte_number, site_of}
use Rattle.live_text.specs.Rule.{cached}
use Rattle.live_text.specs.Seats.{Sits}
use Rattle.live_text.specs.Versions.{version}
use Rattle.module_image.specs.Flows.{Flows, PatchedSitesFlow, PlainInstructionsFlow}
use Rattle.module_image.specs.Layout.{Layout}
use Rattle.module_image.specs.Module.{IsAccepted, Module, layout_of}
use Rattle.x64_subset.specs.declared.proc.Life.TheVariants.{Running}
use Rattle.x64_subset.specs.declared.proc.Proc.{Proc}
use Rattle.x64_subset.specs.Effect.{at_ip, does}
use Rattle.x64_subset.specs.Whole.{whole}
use Rattle.live_engine.specs.declared.cpu.Turn.{Turn}
use Rattle.live_engine.specs.declared.cpu.Turn.TheVariants.{Ran, Pass, Trapped, Still}
use Rattle.live_engine.specs.LiveCpu.{CpuState, IsPaired, IsTrapped, Runner, next_at}
use Rattle.live_engine.specs.LivePlan.{IsLivePlan, IsWanted}
use Rattle.live_engine.specs.Turns.{Does, FetchesTrap}
use Rattle.live_engine.specs.Versions.{IsSiteAt}
use Rattle.live_engine.proofs.Lookups.{some-size}
use Rattle.live_engine.proofs.Looking.{IsLater}
use Rattle.live_engine.proofs.Pairing.{back, form-flows, next-free, start-below}
use Rattle.live_engine.proofs.Passing.{is-hit, seen}
use Rattle.live_engine.proofs.Phased.{HasPhases}
use Rattle.live_engine.proofs.WantedVersions.{version-wanted}

-- where an untrapped processor goes on
flows-free : (t : Layout) (c : CpuState) → c.trapped ≡ false → Flows t c.proc → Flows t (at_ip (next_at c) c.proc)
flows-free t c free flows = subst (λ (at : ℕ). Flows t (at_ip at c.proc)) (sym (next-free c free)) flows

flows-as-free : (t : Layout) (c : CpuState) → c.trapped ≡ false → Flows t (at_ip (next_at c) c.proc) → Flows t c.proc
flows-as-free t c free flows = subst (λ (at : ℕ). Flows t (at_ip at c.proc)) (next-free c free) flows

-- the laws that this stands on
pub record HasFlows (m : Module) (plan : LivePlan) : Type 0 where
  pub accepted : IsAccepted m
  pub live : IsLivePlan m plan
  pub phases : HasPhases plan
  pub plain : PlainInstructionsFlow
  pub patched : PatchedSitesFlow
  pub breakpoints : FirstBytesAreBreakpoints
  pub written : BreakpointsAreWritten

-- a form that was done whole leads on
whole-leads : (m : Module) (plan : LivePlan) (site : ℕ) (form : Form) (n at : ℕ) (p : Proc) → HasFlows m plan → p.life ≡ Running → IsSiteAt plan site at → form ≡ version plan site n → Flows (layout_of m) (at_ip at p) → Flows (layout_of m) (whole form at p).0
whole-leads m plan site form n at p laws runs begins is flows =
    let wanted = version-wanted laws.phases.versions m plan site n laws.live begins.listed in
    let here : IsWanted m at (version plan site n) = subst (λ (a : ℕ). IsWanted m a (version plan site n)) begins.begins wanted in
    form-flows laws.patched m at form p laws.accepted (subst (IsWanted m at) (sym is) here) runs flows

-- where a processor stands that fetched a breakpoint: its handler goes back to the start before
trapped-back : (m : Module) (p : Proc) → IsAccepted m → Flows (layout_of m) p → p.life ≡ Running → breakpoint_of (at_ip (after p.ip 1) p) ≡ p.ip
trapped-back m p accepted flows runs = back p.ip (start-below m p.ip accepted (flows.stands runs))

-- each turn leads from start to start
pub flows-after : (m : Module) (plan : LivePlan) (word : ℕ) (r : Runner) (v : View) (s : Runner) (turn : Turn) → HasFlows m plan → Flows (layout_of m) (at_ip (next_at r.cpu) r.cpu.proc) → Does m plan word r v s turn → Flows (layout_of m) (at_ip (next_at s.cpu) s.cpu.proc)
flows-after m plan word r v s (Ran mark) laws flows done =
    let t = layout_of m in
    let proc_is : s.cpu.proc ≡ (does done.insn done.len r.cpu.proc).0 = ap (λ (c : CpuState). c.proc) done.cpu in
    let led = laws.plain m r.cpu.proc done.insn done.len laws.accepted (flows-as-free t r.cpu done.free flows) done.runs done.here in
    flows-free t s.cpu (ap (λ (c : CpuState). c.trapped) done.cpu ∙ done.free) (subst (Flows t) (sym proc_is) led)
flows-after m plan word r v s (Pass site form n ack mark) laws flows done =
    let t = layout_of m in
    let proc_is : s.cpu.proc ≡ (whole form (next_at r.cpu) r.cpu.proc).0 = ap (λ (c : CpuState). c.proc) done.0.cpu in
    let led = whole-leads m plan site form n (next_at r.cpu) r.cpu.proc laws done.0.runs done.0.begins done.0.form_is flows in
    flows-free t s.cpu (ap (λ (c : CpuState). c.trapped) done.0.cpu) (subst (Flows t) (sym proc_is) led)
flows-after m plan word r v s Trapped laws flows done =
    let t = layout_of m in
    let p = r.cpu.proc in
    let stood = flows-as-free t r.cpu done.free flows in
    subst (λ (c : CpuState). Flows t (at_ip (next_at c) c.proc)) (sym done.cpu)
    (subst (λ (at : ℕ). Flows t (at_ip at p)) (sym (trapped-back m p laws.accepted stood done.runs)) stood)
flows-after m plan word r v s Still laws flows done =
    subst (λ (c : CpuState). Flows (layout_of m) (at_ip (next_at c) c.proc)) (sym done.cpu) flows

-- a breakpoint that was fetched is one of the chunk that is under way
hits : (m : Module) (plan : LivePlan) (cpus word : ℕ) (r : Runner) (v : View) (s : Runner) → HasFlows m plan → Flows (layout_of m) (at_ip (next_at r.cpu) r.cpu.proc) → s.view.shape ≡ shape_of plan cpus → Sits s.view → FetchesTrap plan word r.cpu v s.cpu s.view → IsTrapped plan s.view s.cpu.proc
hits m plan cpus word r v s laws flows shape sits done =
    let p = r.cpu.proc in
    let site = done.site in
    let stood = flows-as-free (layout_of m) r.cpu done.free flows in
    let long = some-size (site_of plan site).start in
    let has : HasByte plan site 0 = record { listed = done.begins.listed; byte = omega arith } in
    let same : byte_number plan site 0 + 0 ≡ byte_number plan site 0 = omega arith in
    let there : cached s.view.cpu (byte_number plan site 0) ≡ Some 0xcc = subst (λ (b : ℕ). cached s.view.cpu b ≡ Some 0xcc) same (done.fetched.bytes_are 0 (omega arith)) in
    let hit = is-hit plan cpus s.view site laws.phases laws.breakpoints laws.written shape sits has (seen s.view (byte_number plan site 0) 0xcc sits there) in
    let proc_is : s.cpu.proc ≡ at_ip (after p.ip 1) p = ap (λ (c : CpuState). c.proc) done.cpu in
    subst (IsTrapped plan s.view) (sym proc_is)
    (record {
      runs = done.runs;
      site = site;
      begins = subst (IsSiteAt plan site) (sym (trapped-back m p laws.accepted stood done.runs)) done.begins;
      place = hit.place;
      in_chunk = hit.in_chunk;
      knows = hit.knows;
    })

-- a processor that is trapped afterwards hit one
pub trapped-after : (m : Module) (plan : LivePlan) (cpus word : ℕ) (r : Runner) (v : View) (s : Runner) (turn : Turn) → HasFlows m plan → IsPaired m plan r → s.view.shape ≡ shape_of plan cpus → Sits s.view → Does m plan word r v s turn → s.cpu.trapped ≡ true → IsTrapped plan s.view s.cpu.proc
trapped-after m plan cpus word r v s (Ran mark) laws paired shape sits done is =
    let free : s.cpu.trapped ≡ false = ap (λ (c : CpuState). c.trapped) done.cpu ∙ done.free in
    cc
trapped-after m plan cpus word r v s (Pass site form n ack mark) laws paired shape sits done is =
    let free : s.cpu.trapped ≡ false = ap (λ (c : CpuState). c.trapped) done.0.cpu in
    cc
trapped-after m plan cpus word r v s Trapped laws paired shape sits done is = hits m plan cpus word r v s laws paired.flows shape sits done
trapped-after m plan cpus word r v s Still laws paired shape sits done is =
    let before : r.cpu.trapped ≡ true = ap (λ (c : CpuState). c.trapped) (sym done.cpu) ∙ is in
    absurd (done.ended (paired.trapped before).runs)

-- so they are a pair afterwards
pub paired-after : (m : Module) (plan : LivePlan) (cpus word : ℕ) (r : Runner) (v : View) (s : Runner) (turn : Turn) → HasFlows m plan → IsPaired m plan r → IsLater r.view s.view → s.view.shape ≡ shape_of plan cpus → Sits s.view → Does m plan word r v s turn → IsPaired m plan s
paired-after m plan cpus word r v s turn laws paired later shape sits done = record {
  stays = later.left ∙ paired.stays;
  flows = flows-after m plan word r v s turn laws paired.flows done;
  trapped = trapped-after m plan cpus word r v s turn laws paired shape sits done;
}

-- the answer says whether the processor had ended, and whether it is trapped
pub still-is : (m : Module) (plan : LivePlan) (word : ℕ) (r : Runner) (v : View) (s : Runner) (turn : Turn) → Does m plan word r v s turn → (turn ≡ Still) ↔ (r.cpu.proc.life ≢ Running)
still-is m plan word r v s (Ran mark) done = (λ e. cc, λ ended. absurd (ended done.runs))
still-is m plan word r v s (Pass site form n ack mark) done = (λ e. cc, λ ended. absurd (ended done.0.runs))
still-is m plan word r v s Trapped done = (λ e. cc, λ ended. absurd (ended done.runs))
still-is m plan word r v s Still done = (λ e. done.ended, λ ended. refl)

never-both : (b : Bool) → b ≡ false → b ≡ true → ⊥
never-both b free is = cc

pub trapped-is : (m : Module) (plan : LivePlan) (word : ℕ) (r : Runner) (v : View) (s : Runner) (turn : Turn) → IsPaired m plan r → Does m plan word r v s turn → (s.cpu.trapped ≡ true) ↔ (turn ≡ Trapped)
trapped-is m plan word r v s (Ran mark) paired done =
    (λ is. absurd (never-both s.cpu.trapped (ap (λ (c : CpuState). c.trapped) done.cpu ∙ done.free) is), λ e. cc)
trapped-is m plan word r v s (Pass site form n ack mark) paired done =
    (λ is. absurd (never-both s.cpu.trapped (ap (λ (c : CpuState). c.trapped) done.0.cpu) is), λ e. cc)
trapped-is m plan word r v s Trapped paired done = (λ is. refl, λ e. ap (λ (c : CpuState). c.trapped) done.cpu)
trapped-is m plan word r v s Still paired done =
    (λ is. absurd (done.ended (paired.trapped (ap (λ (c : CpuState). c.trapped) (sym done.cpu) ∙ is)).runs), λ e. cc)
