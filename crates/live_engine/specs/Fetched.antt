-- What a fetch at a site answers.
use Rattle.std.specs.Prelude.{◌≡◌, ℕ, [], ◌∷◌}
use Rattle.insn_forms.specs.declared.forms.Form.{Form}
use Rattle.live_text.specs.declared.plan.LivePlan.{LivePlan}
use Rattle.live_text.specs.declared.view.View.{View}
use Rattle.live_text.specs.Own.{byte_number, site_of}
use Rattle.live_engine.specs.declared.fetch.Fetched.{Fetched}
use Rattle.live_engine.specs.declared.fetch.Fetched.TheVariants.{Trap, Whole}
use Rattle.live_engine.specs.Fetch.{Fetches}
use Rattle.live_engine.specs.Lookup.{version_for}
use Rattle.live_engine.specs.Turns.{FetchesForm}
use Rattle.live_text.specs.Versions.{version}

-- the first instruction of a form, which is that of the version that the seat's acknowledgement tells
pub record IsWhole (plan : LivePlan) (word site : ℕ) (v w : View) (form : Form) : Type 0 where
  pub fetched : FetchesForm plan word site form (site_of plan site).at v w
  pub form_is : form ≡ version plan site (version_for plan w.cpu.ack (site_of plan site).at)

-- a breakpoint, or such an instruction
abbrev pub IsFetched : LivePlan → ℕ → ℕ → View → View → Fetched → Type 0
IsFetched plan word site v w Trap = Fetches (byte_number plan site 0) word (0xcc ∷ []) v w
IsFetched plan word site v w (Whole form) = IsWhole plan word site v w form
