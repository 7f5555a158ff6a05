-- What a turn leaves of a processor's place: where it goes on, and each address to which it returns, is a start.
use Rattle.std.proofs.Common.{◌≡◌, ◌+◌, ◌-◌, ◌<◌, ◌%◌, ◌^◌, ◌==◌, ℕ, Bool, true, false, if◌then◌else◌, length, refl, ap, subst, arith}
use Rattle.std.specs.Prelude.{slice_index, slice_set}
use Rattle.insn_forms.specs.declared.forms.Form.{Form}
use Rattle.insn_forms.specs.declared.forms.Form.TheVariants.{Nop2, Nop5, Jmp8, Jmp32, Call, Ret}
use Rattle.int3_handler.specs.Handler.{breakpoint_of}
use Rattle.module_image.specs.Flows.{Flows, PatchedSitesFlow}
use Rattle.module_image.specs.Layout.{IsStart, IsSwept, Layout}
use Rattle.module_image.specs.Module.{IsAccepted, Module, layout_of}
use Rattle.module_image.proofs.Grounds.{same_layout}
use Rattle.x64_subset.specs.declared.proc.FaultKind.TheVariants.{Depth}
use Rattle.x64_subset.specs.declared.proc.Life.{Life}
use Rattle.x64_subset.specs.declared.proc.Life.TheVariants.{Running, Done, Fault}
use Rattle.x64_subset.specs.declared.proc.Mark.{Mark}
use Rattle.x64_subset.specs.declared.proc.Mark.TheVariants.{None as NoMark, Out, Ended}
use Rattle.x64_subset.specs.declared.proc.Proc.{Proc}
use Rattle.x64_subset.specs.Effect.{at_ip, does, ends, next}
use Rattle.x64_subset.specs.Whole.{insn_of, name_len, stays, whole}
use Rattle.live_engine.specs.LiveCpu.{CpuState, next_at}
use Rattle.live_engine.specs.LivePlan.{IsWanted}

-- a processor that was ended isn't running
abbrev pub Stops : Proc × Mark → Type 0
Stops done = done.1 ≡ Ended → done.0.life ≡ Running → ⊥

either-stops : (life : Life) (p q : Proc) (ended : Bool) → (life ≡ Running → ⊥) → Stops (if ended then ends life p else (q, NoMark))
either-stops life p q true stopped e runs = stopped runs
either-stops life p q false stopped e runs = cc

pub form-stops : (form : Form) (len : ℕ) (p : Proc) → Stops (does (insn_of form) len p)
unfolding does
form-stops Nop2 len p e runs = cc
form-stops Nop5 len p e runs = cc
form-stops (Jmp8 target) len p e runs = cc
form-stops (Jmp32 target) len p e runs = cc
form-stops (Call target) len p e runs = either-stops (Fault Depth) p (record p { stack = slice_set p.stack p.depth (next len p); depth = p.depth + 1; ip = target }) (p.depth == 64) (λ r. cc) e runs
form-stops Ret len p e runs = either-stops Done p (record p { depth = p.depth - 1; ip = slice_index p.stack (p.depth - 1) }) (p.depth == 0) (λ r. cc) e runs

-- wherever it stood before, what is left is the same but for the place of a processor that was ended
moved : (t : Layout) (ip there : ℕ) (p : Proc) (mark : Mark) → Stops (p, mark) → Flows t (stays there (p, mark)).0 → Flows t (stays ip (p, mark)).0
moved t ip there p NoMark stops flows = flows
moved t ip there p (Out port value) stops flows = flows
moved t ip there p Ended stops flows = record { stands = λ runs. absurd (stops refl runs); room = flows.room; few = flows.few; returns = flows.returns }

whole-moved : (t : Layout) (form : Form) (at : ℕ) (p : Proc) → Flows t (whole form at (at_ip at p)).0 → Flows t (whole form at p).0
unfolding whole
whole-moved t form at p flows =
    let done = does (insn_of form) (name_len form) (at_ip at p) in
    moved t p.ip at done.0 done.1 (form-stops form (name_len form) (at_ip at p)) flows

-- a form that its site wants leads a processor on, wherever it stands
pub form-flows : PatchedSitesFlow → (m : Module) (at : ℕ) (form : Form) (p : Proc) → IsAccepted m → IsWanted m at form → p.life ≡ Running → Flows (layout_of m) (at_ip at p) → Flows (layout_of m) (whole form at p).0
form-flows law m at form p accepted is runs flows =
    let there = is.there in
    let led = law m is.states is.site there.site form (at_ip at p) accepted is.leads there.here there.ours is.wanted flows runs in
    whole-moved (layout_of m) form at p (subst (λ (a : ℕ). Flows (layout_of m) (whole form a (at_ip at p)).0) there.begins led)

-- a start is an address of the text, none of which wraps
pub start-below : (m : Module) (at : ℕ) → IsAccepted m → IsStart (layout_of m) at → at < 2 ^ 64
start-below m at accepted start =
    let elf = accepted.elf in
    let is = accepted.is in
    let swept : IsSwept (layout_of m) m.units = subst (λ (t : Layout). IsSwept t m.units) (same_layout elf m is) is.swept in
    let there = swept.complete at start in
    let inside : at < m.base + length m.text = there.1 in
    let below = is.below in
    omega arith

-- one byte back from one byte further
pub back : (ip : ℕ) → ip < 2 ^ 64 → ((ip + 1) % 2 ^ 64 + (2 ^ 64 - 1)) % 2 ^ 64 ≡ ip
back ip lt = omega arith

-- where a processor goes on that isn't trapped, and one that is
pub next-free : (c : CpuState) → c.trapped ≡ false → next_at c ≡ c.proc.ip
next-free c free = ap (λ (b : Bool). if b then breakpoint_of c.proc else c.proc.ip) free

pub next-trapped : (c : CpuState) → c.trapped ≡ true → next_at c ≡ breakpoint_of c.proc
next-trapped c trapped = ap (λ (b : Bool). if b then breakpoint_of c.proc else c.proc.ip) trapped

-- a processor by its state
abbrev pub cpu_of : Proc → Bool → CpuState
cpu_of p trapped = record { proc = p; trapped = trapped }
