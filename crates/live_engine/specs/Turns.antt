-- What one turn of a processor does, and what it answers.
use Rattle.std.specs.Prelude.{◌≡◌, ◌≢◌, ◌≤◌, ◌⊎◌, ℕ, ◌+◌, ◌/◌, true, false, List, [], ◌∷◌, Some, None}
use Rattle.insn_forms.specs.declared.forms.Form.{Form}
use Rattle.insn_forms.specs.Spelling.{after}
use Rattle.live_text.specs.declared.plan.LivePlan.{LivePlan}
use Rattle.live_text.specs.declared.view.View.{View}
use Rattle.live_text.specs.Own.{byte_number}
use Rattle.live_text.specs.Steps.{acked}
use Rattle.module_image.specs.Layout.{site_at}
use Rattle.module_image.specs.Module.{Module, plain_at}
use Rattle.x64_subset.specs.declared.insn.Insn.{Insn}
use Rattle.x64_subset.specs.declared.insn.Insn.TheVariants.{Serialize}
use Rattle.x64_subset.specs.declared.proc.Life.TheVariants.{Running}
use Rattle.x64_subset.specs.declared.proc.Mark.{Mark}
use Rattle.x64_subset.specs.Effect.{at_ip, does}
use Rattle.x64_subset.specs.Whole.{name, whole}
use Rattle.live_engine.specs.declared.cpu.Turn.{Turn}
use Rattle.live_engine.specs.declared.cpu.Turn.TheVariants.{Ran, Pass, Trapped, Still}
use Rattle.live_engine.specs.Fetch.{Fetches}
use Rattle.live_engine.specs.LiveCpu.{CpuState, Runner, next_at}
use Rattle.live_engine.specs.Look.{Begins, is_looking}
use Rattle.live_text.specs.Versions.{version}
use Rattle.live_engine.specs.Versions.{IsSiteAt, IsAllowed, floor}

-- SERIALIZE makes the processor fetch anew (Intel SDM volume 3, "Serializing Instructions"): the last acknowledgement is
-- stored again, which empties the cache
abbrev pub renewed : View → View
renewed v = acked v.cpu.ack v

-- after a plain instruction the view is as before, but after SERIALIZE
abbrev pub after_insn : Insn → View → View
after_insn Serialize v = renewed v
after_insn _ v = v

-- a plain instruction is done where the processor stands, and no patched site begins there
pub record RunsPlain (m : Module) (before : CpuState) (v : View) (now : CpuState) (w : View) (mark : Mark) : Type 0 where
  pub free : before.trapped ≡ false
  pub runs : before.proc.life ≡ Running
  pub insn : Insn
  pub len : ℕ
  pub here : plain_at m before.proc.ip ≡ Some (insn, len)
  pub no_site : site_at m.sites before.proc.ip ≡ None
  pub cpu : now ≡ record before { proc = (does insn len before.proc).0 }
  pub shows : mark ≡ (does insn len before.proc).1
  pub view : w ≡ after_insn insn v

-- the form is done whole at a site, and it is the version that it says, one that the acknowledgement allows
pub record DoesWhole (plan : LivePlan) (site : ℕ) (form : Form) (n ack : ℕ) (mark : Mark) (r s : Runner) : Type 0 where
  pub runs : r.cpu.proc.life ≡ Running
  pub begins : IsSiteAt plan site (next_at r.cpu)
  pub ack_is : ack ≡ s.view.cpu.ack
  pub form_is : form ≡ version plan site n
  pub allowed : IsAllowed plan site ack n
  pub cpu : s.cpu ≡ record { proc = (whole form (next_at r.cpu) r.cpu.proc).0; trapped = false }
  pub shows : mark ≡ (whole form (next_at r.cpu) r.cpu.proc).1
  -- it isn't below the site's floor before the turn, nor above it after the turn
  pub from : floor plan r.view site ≤ n
  pub to : n ≤ floor plan s.view site

-- the bytes of the form's first instruction are fetched
pub record FetchesForm (plan : LivePlan) (word site : ℕ) (form : Form) (at : ℕ) (v w : View) : Type 0 where
  pub bytes : List ℕ
  pub named : name form at ≡ Some bytes
  pub fetched : Fetches (byte_number plan site 0) word bytes v w

-- the handler does the new form of the chunk that is under way, and makes the processor fetch anew
pub record HandlesForm (n : ℕ) (v w : View) : Type 0 where
  pub new : n ≡ v.cpu.ack / 3 + 1
  pub view : w ≡ renewed v

-- where a form comes from: what is fetched, or the handler of the breakpoint that was hit
abbrev pub Gets : LivePlan → ℕ → ℕ → Form → ℕ → CpuState → View → View → Type 0
Gets plan word site form n c v w =
    ((c.trapped ≡ false) × FetchesForm plan word site form c.proc.ip v w) ⊎ ((c.trapped ≡ true) × HandlesForm n v w)

-- a breakpoint is fetched at a site: the processor is trapped, one byte further
pub record FetchesTrap (plan : LivePlan) (word : ℕ) (before : CpuState) (v : View) (now : CpuState) (w : View) : Type 0 where
  pub free : before.trapped ≡ false
  pub runs : before.proc.life ≡ Running
  pub site : ℕ
  pub begins : IsSiteAt plan site before.proc.ip
  pub fetched : Fetches (byte_number plan site 0) word (0xcc ∷ []) v w
  pub cpu : now ≡ record { proc = at_ip (after before.proc.ip 1) before.proc; trapped = true }

-- the processor isn't running, and nothing is done
pub record Rests (before : CpuState) (v : View) (now : CpuState) (w : View) : Type 0 where
  pub ended : before.proc.life ≢ Running
  pub cpu : now ≡ before
  pub view : w ≡ v

-- what a turn does after its look, by its answer; the look has left the view `v`
abbrev pub Does : Module → LivePlan → ℕ → Runner → View → Runner → Turn → Type 0
Does m plan word r v s (Ran mark) = RunsPlain m r.cpu v s.cpu s.view mark
Does m plan word r v s (Pass site form n ack mark) =
    DoesWhole plan site form n ack mark r s × Gets plan word site form n r.cpu v s.view
Does m plan word r v s Trapped = FetchesTrap plan word r.cpu v s.cpu s.view
Does m plan word r v s Still = Rests r.cpu v s.cpu s.view

-- a whole turn
pub record Turns (m : Module) (plan : LivePlan) (word : ℕ) (r s : Runner) (turn : Turn) : Type 0 where
  pub looked : View
  pub begins : Begins (is_looking r.cpu word) r.view looked
  pub does : Does m plan word r looked s turn
