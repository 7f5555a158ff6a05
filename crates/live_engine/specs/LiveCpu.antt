-- A processor that fetches from shared words, and the seat that it has there.
use Rattle.std.specs.Prelude.{◌≡◌, ◌<◌, ℕ, ◌/◌, Bool, true, false, if◌then◌else◌, Some}
use Rattle.int3_handler.specs.Handler.{breakpoint_of}
use Rattle.live_text.specs.declared.plan.LivePlan.{LivePlan}
use Rattle.live_text.specs.declared.view.View.{View}
use Rattle.live_text.specs.Seats.{Placed}
use Rattle.module_image.specs.Flows.{Flows}
use Rattle.module_image.specs.Layout.{IsStart}
use Rattle.module_image.specs.Module.{Module, layout_of}
use Rattle.x64_subset.specs.declared.proc.Life.TheVariants.{Running}
use Rattle.x64_subset.specs.declared.proc.Proc.{Proc}
use Rattle.x64_subset.specs.Effect.{at_ip}
use Rattle.x64_subset.specs.Proc.{start}
use Rattle.live_text.specs.Versions.{place_in, breakpoint_write}
use Rattle.live_engine.specs.Versions.{IsSiteAt}

-- a processor, and whether it hit a breakpoint whose handler hasn't run
pub record CpuState : Type 0 where
  pub proc : Proc
  pub trapped : Bool

abbrev pub new_cpu : ℕ → CpuState
new_cpu entry = record { proc = start entry; trapped = false }

-- a processor with what its seat knows
pub record Runner : Type 0 where
  pub cpu : CpuState
  pub view : View

abbrev pub runner : CpuState → Placed → Runner
runner cpu seat = record { cpu = cpu; view = seat.view }

-- where the instruction stands that a processor does next: at the breakpoint that it hit, or where it stands
abbrev pub next_at : CpuState → ℕ
next_at c = if c.trapped then breakpoint_of c.proc else c.proc.ip

-- a processor hit the breakpoint of a site of the chunk that is under way for it, and its seat knows that write
pub record IsTrapped (plan : LivePlan) (v : View) (p : Proc) : Type 0 where
  pub runs : p.life ≡ Running
  pub site : ℕ
  pub begins : IsSiteAt plan site (breakpoint_of p)
  pub place : ℕ
  pub in_chunk : place_in plan (v.cpu.ack / 3) site ≡ Some place
  pub knows : breakpoint_write v.shape (v.cpu.ack / 3) place < v.cpu.known

-- a processor and its seat belong together: the seat hasn't left; where the processor goes on, and each address to which it
-- returns, is a start; and where it is trapped, it hit a breakpoint of the plan
pub record IsPaired (m : Module) (plan : LivePlan) (r : Runner) : Type 0 where
  pub stays : r.view.cpu.left ≡ false
  pub flows : Flows (layout_of m) (at_ip (next_at r.cpu) r.cpu.proc)
  pub trapped : r.cpu.trapped ≡ true → IsTrapped plan r.view r.cpu.proc

-- a new processor that stands at a start is paired with every seat that hasn't left
abbrev pub NewCpusArePaired : Type 0
NewCpusArePaired =
    (m : Module) (plan : LivePlan) (entry : ℕ) (v : View) → IsStart (layout_of m) entry → v.cpu.left ≡ false
    → IsPaired m plan (record { cpu = new_cpu entry; view = v })
