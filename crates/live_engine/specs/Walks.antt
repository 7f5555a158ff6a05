-- Walks: what a processor does from its entry on, in whole instructions.
use Rattle.std.specs.Prelude.{◌≡◌, ◌≤◌, ⊤, ℕ, ◌+◌, ◌*◌, List, [], ◌∷◌, length, AllPairs, Option, Some, None}
use Rattle.insn_forms.specs.declared.forms.Form.{Form}
use Rattle.live_text.specs.declared.plan.LivePlan.{LivePlan}
use Rattle.module_image.specs.Layout.{site_at}
use Rattle.module_image.specs.Module.{Module, plain_at}
use Rattle.x64_subset.specs.declared.insn.Insn.{Insn}
use Rattle.x64_subset.specs.declared.proc.Life.TheVariants.{Running}
use Rattle.x64_subset.specs.declared.proc.Mark.{Mark}
use Rattle.x64_subset.specs.declared.proc.Proc.{Proc}
use Rattle.x64_subset.specs.Effect.{does}
use Rattle.x64_subset.specs.Proc.{start}
use Rattle.x64_subset.specs.Whole.{whole}
use Rattle.live_engine.specs.declared.cpu.Turn.{Turn}
use Rattle.live_engine.specs.declared.cpu.Turn.TheVariants.{Ran, Pass, Trapped, Still}
use Rattle.live_text.specs.Versions.{version}
use Rattle.live_engine.specs.Versions.{IsSiteAt, IsAllowed}

-- a processor does the plain instruction where it stands, and no patched site begins there
pub record DoesPlain (m : Module) (p : Proc) (mark : Mark) : Type 0 where
  pub runs : p.life ≡ Running
  pub insn : Insn
  pub len : ℕ
  pub here : plain_at m p.ip ≡ Some (insn, len)
  pub no_site : site_at m.sites p.ip ≡ None
  pub shows : mark ≡ (does insn len p).1

-- it does the form of the site that begins where it stands, in a version that its acknowledgement allows
pub record DoesSite (plan : LivePlan) (p : Proc) (site : ℕ) (form : Form) (n ack : ℕ) (mark : Mark) : Type 0 where
  pub runs : p.life ≡ Running
  pub begins : IsSiteAt plan site p.ip
  pub form_is : form ≡ version plan site n
  pub allowed : IsAllowed plan site ack n
  pub shows : mark ≡ (whole form p.ip p).1

-- what a member of a walk says; turns in which nothing was done aren't members
abbrev pub Says : Module → LivePlan → Proc → Turn → Type 0
Says m plan p (Ran mark) = DoesPlain m p mark
Says m plan p (Pass site form n ack mark) = DoesSite plan p site form n ack mark
Says m plan p Trapped = ⊥
Says m plan p Still = ⊥

-- the processor after a plain instruction, and after a member
abbrev pub after_plain : Option (Insn × ℕ) → Proc → Proc
after_plain None p = p
after_plain (Some (insn, len)) p = (does insn len p).0

abbrev pub after_turn : Module → Proc → Turn → Proc
after_turn m p (Ran mark) = after_plain (plain_at m p.ip) p
after_turn m p (Pass site form n ack mark) = (whole form p.ip p).0
after_turn m p Trapped = p
after_turn m p Still = p

-- the members say so one after the other, and the processor after them
abbrev pub SayAll : Module → LivePlan → Proc → List Turn → Type 0
SayAll m plan p [] = ⊤
SayAll m plan p (turn ∷ turns) = Says m plan p turn × SayAll m plan (after_turn m p turn) turns

abbrev pub after_turns : Module → Proc → List Turn → Proc
after_turns m p [] = p
after_turns m p (turn ∷ turns) = after_turns m (after_turn m p turn) turns

-- of two passes the later has no lower acknowledgement, nor a lower version if both are of one site
abbrev pub IsInOrder : Turn → Turn → Type 0
IsInOrder (Pass site form n ack mark) (Pass site' form' n' ack' mark') = (ack ≤ ack') × (site ≡ site' → n ≤ n')
IsInOrder _ _ = ⊤

-- what a processor does from its entry on in at most so many turns; where it is still running, each two turns, but for the
-- last, have done an instruction
pub record IsWalk (m : Module) (plan : LivePlan) (entry turns : ℕ) (walk : List Turn) : Type 0 where
  pub says : SayAll m plan (start entry) walk
  pub in_order : AllPairs IsInOrder walk
  pub few : length walk ≤ turns
  pub many : (after_turns m (start entry) walk).life ≡ Running → turns ≤ 2 * length walk + 1
