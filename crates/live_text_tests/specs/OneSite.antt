-- The plan of a test.
use Rattle.std.specs.Prelude.{◌≡◌, [], ◌∷◌, length}
use Rattle.insn_forms.specs.declared.forms.Form.TheVariants.{Nop5, Jmp32}
use Rattle.insn_forms.specs.declared.forms.Change.{Change}
use Rattle.live_text.specs.declared.plan.LivePlan.{LivePlan}
use Rattle.live_text.specs.declared.plan.LiveSite.{LiveSite}
use Rattle.live_text.specs.Plan.{chunks_of}

-- one site, a no-operation that becomes a jump
abbrev pub lone_site : LiveSite
lone_site = record { at = 0x401000; start = Nop5 }

abbrev pub lone_change : Change
lone_change = record { at = 0x401000; old = Nop5; new = Jmp32 0x40100e }

pub record IsOneSite (plan : LivePlan) : Type 0 where
  pub sites : plan.sites.items ≡ lone_site ∷ []
  pub chunks : chunks_of plan ≡ (lone_change ∷ []) ∷ []
  pub count : length plan.chunks.items ≡ 1
