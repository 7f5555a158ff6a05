-- What patched sites want leads from starts to starts.
use Rattle.std.proofs.Common.{◌≡◌, ◌==◌, ◌⊎◌, inl, inr, ℕ, Bool, true, false, cond, slice_index_or, refl, sym, subst}
use Rattle.std.specs.Prelude.{⊤}
use Rattle.std.specs.Option.{unwrap_or}
use Rattle.std.proofs.lemmas.Bool.{eqb-false}
use Rattle.std.proofs.lemmas.Option.{same_Some}
use Rattle.insn_forms.specs.declared.forms.Form.{Form}
use Rattle.insn_forms.specs.declared.forms.Form.TheVariants.{Nop2, Nop5, Jmp8, Jmp32, Call as CallTo, Ret}
use Rattle.insn_forms.specs.Spelling.{after}
use Rattle.x64_subset.specs.declared.proc.Proc.{Proc}
use Rattle.x64_subset.specs.Effect.{at_ip, does}
use Rattle.x64_subset.specs.Whole.{insn_of, name_len, whole}
use Rattle.module_parts.specs.declared.site.SiteKind.{SiteKind}
use Rattle.module_parts.specs.declared.site.SiteKind.TheVariants.{Jump, Call, Tail, Trace}
use Rattle.module_image.specs.Early.{HasCallLen}
use Rattle.module_image.specs.Flows.{Flows, PatchedSitesFlow}
use Rattle.module_image.specs.Layout.{Layout, IsStart, is_tail}
use Rattle.module_image.specs.Module.{layout_of, tracer_of}
use Rattle.module_image.specs.Wants.{called, jump_of, nop_of, state_of, tail_called, traced, wanted}
use Rattle.module_image.proofs.Flowing.{moves, stays_flows}
use Rattle.module_image.proofs.Grounds.{module_ground, site_next, site_start}
use Rattle.module_laws.proofs.HeldForms.{site_of_file, want_of}
use Rattle.module_image.proofs.PlainFlows.{IsLed, insn_flows}
use Rattle.module_laws.proofs.Reaching.{LeadsTo, module_leads_to}
use Rattle.module_image.proofs.Sound.{call_lens_passed}

-- where a form at an address leads
abbrev pub LeadsOn : Layout → ℕ → Form → Type 0
LeadsOn t at Nop2 = IsStart t (after at 2)
LeadsOn t at Nop5 = IsStart t (after at 5)
LeadsOn t at (Jmp8 target) = IsStart t target
LeadsOn t at (Jmp32 target) = IsStart t target
LeadsOn t at (CallTo target) = IsStart t target × IsStart t (after at 5)
LeadsOn t at Ret = ⊤

-- so its instruction does
form_led : (t : Layout) (at : ℕ) (form : Form) → LeadsOn t at form → IsLed t at (insn_of form) (name_len form)
form_led t at Nop2 leads = record { on = λ falls. leads; to = λ target is. cc }
form_led t at Nop5 leads = record { on = λ falls. leads; to = λ target is. cc }
form_led t at (Jmp8 target) leads = record { on = λ falls. cc; to = λ other is. subst (IsStart t) (same_Some target other is) leads }
form_led t at (Jmp32 target) leads = record { on = λ falls. cc; to = λ other is. subst (IsStart t) (same_Some target other is) leads }
form_led t at (CallTo target) leads = record { on = λ falls. leads.1; to = λ other is. subst (IsStart t) (same_Some target other is) leads.0 }
form_led t at Ret leads = record { on = λ falls. cc; to = λ target is. cc }

-- a form done as a whole, by a processor that stands at a start
whole_flows : (t : Layout) (at : ℕ) (form : Form) (p : Proc) → IsStart t at → IsStart t p.ip → LeadsOn t at form → Flows t p → Flows t (whole form at p).0
unfolding whole
whole_flows t at form p start stands leads flows =
    let there : Flows t (at_ip at p) = moves t p (at_ip at p) refl refl start flows in
    stays_flows t p.ip (does (insn_of form) (name_len form) (at_ip at p)) stands
    (insn_flows t (at_ip at p) (insn_of form) (name_len form) (form_led t at form leads) there)

-- a jump site's forms go on after it, or to its target
nop_leads : (t : Layout) (at len : ℕ) → (len ≡ 2) ⊎ (len ≡ 5) → IsStart t (after at len) → LeadsOn t at (nop_of len)
nop_leads t at len (inl two) start = subst (λ (n : ℕ). LeadsOn t at (nop_of n)) (sym two) (subst (λ (n : ℕ). IsStart t (after at n)) two start)
nop_leads t at len (inr five) start = subst (λ (n : ℕ). LeadsOn t at (nop_of n)) (sym five) (subst (λ (n : ℕ). IsStart t (after at n)) five start)

jump_leads : (t : Layout) (at len target : ℕ) → IsStart t target → LeadsOn t at (jump_of len target)
jump_leads t at len target start = by (len == 2)
  where
    by : (short : Bool) → LeadsOn t at (cond short (Jmp8 target) (Jmp32 target))
    by true = start
    by false = start

switched_leads : (t : Layout) (at len target : ℕ) (test : Bool) → (len ≡ 2) ⊎ (len ≡ 5) → IsStart t target → IsStart t (after at len) → LeadsOn t at (cond test (jump_of len target) (nop_of len))
switched_leads t at len target true two_or_five to on = jump_leads t at len target to
switched_leads t at len target false two_or_five to on = nop_leads t at len two_or_five on

-- a call site's go on after it, or call its key's function
called_leads : (t : Layout) (at func : ℕ) → (func ≡ 0) ⊎ IsStart t func → IsStart t (after at 5) → LeadsOn t at (called func)
called_leads t at func to on = by (func == 0) refl to
  where
    by : (test : Bool) → (func == 0) ≡ test → (func ≡ 0) ⊎ IsStart t func → LeadsOn t at (cond test Nop5 (CallTo func))
    by true is to = on
    by false is (inl none) = absurd (eqb-false func 0 is none)
    by false is (inr start) = (start, on)

-- a tail site's return, or jump to it
tail_leads : (t : Layout) (at func : ℕ) → (func ≡ 0) ⊎ IsStart t func → LeadsOn t at (tail_called func)
tail_leads t at func to = by (func == 0) refl to
  where
    by : (test : Bool) → (func == 0) ≡ test → (func ≡ 0) ⊎ IsStart t func → LeadsOn t at (cond test Ret (Jmp32 func))
    by true is to = tt
    by false is (inl none) = absurd (eqb-false func 0 is none)
    by false is (inr start) = start

-- a trace site's go on after it, or call the tracer
traced_leads : (t : Layout) (at tracer : ℕ) (on : Bool) → IsStart t tracer → IsStart t (after at 5) → LeadsOn t at (traced tracer on)
traced_leads t at tracer true to next = (to, next)
traced_leads t at tracer false to next = next

-- a site's, where it leads to a start, and goes on to one unless it is a tail call
wanted_leads : (t : Layout) (tracer state : ℕ) (on : Bool) (at len : ℕ) (kind : SiteKind) → LeadsTo t tracer state kind → (len ≡ 2) ⊎ (len ≡ 5) → HasCallLen len kind → (is_tail kind ≡ false → IsStart t (after at len)) → LeadsOn t at (wanted tracer state on len kind)
wanted_leads t tracer state on at len (Jump target key likely) to two_or_five five next = switched_leads t at len target _ two_or_five to (next refl)
wanted_leads t tracer state on at len (Call key) to two_or_five five next = called_leads t at state to (subst (λ (n : ℕ). IsStart t (after at n)) five (next refl))
wanted_leads t tracer state on at len (Tail key) to two_or_five five next = tail_leads t at state to
wanted_leads t tracer state on at len Trace to two_or_five five next = traced_leads t at tracer on to (subst (λ (n : ℕ). IsStart t (after at n)) five (next refl))

-- a patched site's form, done as a whole
pub patched_flows : PatchedSitesFlow
patched_flows m states i s form p accepted well here ours want flows running =
    let elf = accepted.elf in
    let is = accepted.is in
    let t = layout_of m in
    let ground = module_ground elf m is in
    let leads =
    wanted_leads t (unwrap_or (tracer_of m) 0) (state_of states.keys s.kind) (slice_index_or states.traced i false) s.at s.len s.kind
    (module_leads_to elf m states i s s.kind is well here refl) (ground.inside i s here).two_or_five (call_lens_passed elf i s (site_of_file elf m i s is here))
    (λ goes. site_next t m.units i s ground is.below here ours goes) in
    whole_flows t s.at form p (site_start t m.units i s ground here ours) (flows.stands running) (subst (LeadsOn t s.at) (want_of m states i s form here want) leads) flows
