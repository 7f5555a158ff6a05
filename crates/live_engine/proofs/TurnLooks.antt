-- A turn as a whole: its look, and what it does then.
use Rattle.std.proofs.Common.{◌≡◌, ◌≤◌, ◌%◌, ◌==◌, ◌&&◌, ℕ, Bool, true, false, not, refl, ap, sym, subst, arith}
use Rattle.live_text.specs.declared.plan.LivePlan.{LivePlan}
use Rattle.live_text.specs.declared.view.View.{View}
use Rattle.live_text.specs.Seats.{Sits}
use Rattle.module_image.specs.Module.{Module}
use Rattle.live_engine.specs.declared.cpu.Turn.{Turn}
use Rattle.live_engine.specs.declared.cpu.Turn.TheVariants.{Ran, Pass, Trapped, Still}
use Rattle.live_engine.specs.LiveCpu.{CpuState, Runner}
use Rattle.live_engine.specs.Look.{Begins, is_looking}
use Rattle.live_engine.specs.Turns.{Does, DoesWhole, Turns}
use Rattle.live_engine.specs.Versions.{floor}
use Rattle.live_engine.proofs.Looking.{looked-later}
use Rattle.live_engine.proofs.TurnViews.{floor-later}

-- what is done after a look is done from the view before it, of which no floor is higher
does-before : (m : Module) (plan : LivePlan) (word : ℕ) (c : CpuState) (u v : View) (s : Runner) (turn : Turn) → ((site : ℕ) → floor plan u site ≤ floor plan v site) → Does m plan word (record { cpu = c; view = v }) v s turn → Does m plan word (record { cpu = c; view = u }) v s turn
does-before m plan word c u v s (Ran mark) floors done = done
does-before m plan word c u v s (Pass site form n ack mark) floors done =
    let is = done.0 in
    let up = floors site in
    let from = is.from in
    let whole_is : DoesWhole plan site form n ack mark (record { cpu = c; view = u }) s = record {
      runs = is.runs;
      begins = is.begins;
      ack_is = is.ack_is;
      form_is = is.form_is;
      allowed = is.allowed;
      cpu = is.cpu;
      shows = is.shows;
      from = omega arith;
      to = is.to;
    } in
    (whole_is, done.1)
does-before m plan word c u v s Trapped floors done = done
does-before m plan word c u v s Still floors done = done

-- a trapped processor doesn't look
pub trapped-turns : (m : Module) (plan : LivePlan) (word : ℕ) (c : CpuState) (v : View) (s : Runner) (turn : Turn) → c.trapped ≡ true → Does m plan word (record { cpu = c; view = v }) v s turn → Turns m plan word (record { cpu = c; view = v }) s turn
trapped-turns m plan word c v s turn trapped done =
    let still : is_looking c word ≡ false = ap (λ (b : Bool). not b && (word % 2 == 1)) trapped in
    record { looked = v; begins = subst (λ (b : Bool). Begins b v v) (sym still) refl; does = done }

-- any other looks where the word asks for it
pub free-turns : (m : Module) (plan : LivePlan) (word : ℕ) (c : CpuState) (u v : View) (s : Runner) (turn : Turn) → Sits u → c.trapped ≡ false → Begins (word % 2 == 1) u v → Does m plan word (record { cpu = c; view = v }) v s turn → Turns m plan word (record { cpu = c; view = u }) s turn
free-turns m plan word c u v s turn sits free begins done =
    let looks : is_looking c word ≡ (word % 2 == 1) = ap (λ (b : Bool). not b && (word % 2 == 1)) free in
    let later = (looked-later (word % 2 == 1) u v sits begins).0 in
    record {
      looked = v;
      begins = subst (λ (b : Bool). Begins b u v) (sym looks) begins;
      does = does-before m plan word c u v s turn (λ site. floor-later plan u v site later) done;
    }
