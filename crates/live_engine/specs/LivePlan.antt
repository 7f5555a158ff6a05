-- The live plan of a module, and that of a script.
use Rattle.std.specs.Prelude.{◌≡◌, ℕ, Bool, not, List, [], ◌∷◌, ◌++◌, filter, All, Some}
use Rattle.std.specs.List.{AllZip, flat_map}
use Rattle.insn_forms.specs.declared.forms.Form.{Form}
use Rattle.insn_forms.specs.declared.forms.Change.{Change}
use Rattle.insn_forms.specs.Spelling.{spell}
use Rattle.key_state.specs.Outcome.{made_by, settled}
use Rattle.live_text.specs.declared.plan.LivePlan.{LivePlan}
use Rattle.live_text.specs.declared.plan.LiveSite.{LiveSite}
use Rattle.live_text.specs.Plan.{Stands, chunks_of, form_after}
use Rattle.module_parts.specs.declared.command.Command.{Command}
use Rattle.module_parts.specs.declared.site.Site.{Site}
use Rattle.module_image.specs.Flows.{LeadWell}
use Rattle.module_image.specs.Held.{first_states}
use Rattle.module_image.specs.Lent.{IsPatchedSite}
use Rattle.module_image.specs.Module.{Module, States, wants}
use Rattle.module_image.specs.Sites.{code_at}
use Rattle.poke_batch.specs.Poke.{spelled, chunks}
use Rattle.script_text.specs.Commands.{commands}
use Rattle.script_text.specs.Script.{ScriptValue}
use Rattle.live_engine.specs.FirstForms.{StartsAsWanted}

-- a site that is patched
abbrev pub is_patched : Site → Bool
is_patched s = not s.foreign

-- the plan's site for a patched site: its address, and the form that the text holds there
pub record IsLiveSite (m : Module) (s : Site) (live : LiveSite) : Type 0 where
  pub at : live.at ≡ s.at
  pub holds : spell live.start s.at ≡ Some (code_at m.base m.text s.at s.len)

-- the plan's sites are the patched sites of the module, in order
abbrev pub AreLiveSites : Module → List LiveSite → Type 0
AreLiveSites m lives = AllZip (IsLiveSite m) (filter is_patched m.sites) lives

-- the patched site at an address wants this form for some counts, trace states and functions, where each function is none
-- or a start
pub record IsWanted (m : Module) (at : ℕ) (form : Form) : Type 0 where
  pub states : States
  pub leads : LeadWell m states
  pub site : ℕ
  pub there : IsPatchedSite m.sites at site
  pub wanted : wants m states site ≡ Some form

-- a live plan of a module: a plan that stands, whose sites are the patched ones, each of whose forms is one that its site
-- may want
pub record IsLivePlan (m : Module) (plan : LivePlan) : Type 0 where
  pub stands : Stands plan
  pub sites : AreLiveSites m plan.sites.items
  pub starts : All (λ (s : LiveSite). IsWanted m s.at s.start) plan.sites.items
  pub changes : All (All (λ (c : Change). IsWanted m c.at c.new)) (chunks_of plan)

-- the chunks of all updates that are done, one after the other; an update that is refused, and one that changes nothing,
-- has none
abbrev pub chunks_made : Module → States → List Command → List (List Change)
chunks_made m states [] = []
chunks_made m states (command ∷ later) =
    chunks (made_by m states command) ++ chunks_made m (settled m states command) later

-- the live plan of a script: its sites have the forms that they want before any update
pub record IsPlanOf (m : Module) (script : ScriptValue) (plan : LivePlan) : Type 0 where
  pub live : IsLivePlan m plan
  pub firsts : All (StartsAsWanted m) plan.sites.items
  pub chunks_are : chunks_of plan ≡ chunks_made m (first_states m) (commands script.steps)

-- the bytes of all sites, in order, after all chunks
abbrev pub last_bytes : LivePlan → List ℕ
last_bytes plan =
    flat_map (λ (s : LiveSite). spelled (form_after (chunks_of plan) s.at s.start) s.at) plan.sites.items
