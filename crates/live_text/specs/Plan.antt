-- When a plan can be carried out.
use Rattle.std.specs.Prelude.{◌≡◌, ◌≤◌, ◌<◌, ◌+◌, ◌^◌, ◌==◌, if◌then◌else◌, ℕ, List, [], ◌∷◌, length, map, take, slice_get, Some, IsSome, All, AllPairs}
use Rattle.std.specs.List.{Contains}
use Rattle.insn_forms.specs.declared.forms.Form.{Form}
use Rattle.insn_forms.specs.declared.forms.Change.{Change}
use Rattle.insn_forms.specs.Spelling.{spell, size}
use Rattle.live_text.specs.declared.plan.LivePlan.{LivePlan}
use Rattle.live_text.specs.declared.plan.LiveSite.{LiveSite}

-- the chunks of a plan, as lists
abbrev pub chunks_of : LivePlan → List (List Change)
chunks_of plan = map (λ chunk. chunk.items) plan.chunks.items

-- the form that the site at an address has after the changes of a chunk, if it had this one before
abbrev pub changed : List Change → ℕ → Form → Form
changed [] at form = form
changed (c ∷ chunk) at form = if c.at == at then c.new else changed chunk at form

-- the form that it has after some chunks
abbrev pub form_after : List (List Change) → ℕ → Form → Form
form_after [] at form = form
form_after (chunk ∷ chunks) at form = form_after chunks at (changed chunk at form)

-- sites ascend and don't overlap
abbrev pub SitesApart : List LiveSite → Type 0
SitesApart sites = AllPairs (λ (s t : LiveSite). s.at + size s.start ≤ t.at) sites

-- the change of a site after the chunks before it
pub record IsChange (sites : List LiveSite) (earlier : List (List Change)) (c : Change) : Type 0 where
  -- it is at the address of a site
  pub site : LiveSite
  pub listed : Contains sites site
  pub there : site.at ≡ c.at
  -- its old form is what the site has by then, and its new form has the same size
  pub old_is : c.old ≡ form_after earlier c.at site.start
  pub one_size : size c.old ≡ size c.new
  -- both have spellings there
  pub old_spelt : IsSome (spell c.old c.at)
  pub new_spelt : IsSome (spell c.new c.at)

-- a chunk after those before it: 1 to 256 changes that ascend
pub record IsChunk (sites : List LiveSite) (earlier : List (List Change)) (chunk : List Change) : Type 0 where
  pub some : 1 ≤ length chunk
  pub most : length chunk ≤ 256
  pub ascend : AllPairs (λ (c d : Change). c.at < d.at) chunk
  pub changes : All (IsChange sites earlier) chunk

-- a plan that stands
pub record Stands (plan : LivePlan) : Type 0 where
  pub few_sites : length plan.sites.items < 2 ^ 32
  pub few_chunks : length plan.chunks.items < 2 ^ 32
  pub apart : SitesApart plan.sites.items
  pub spelt : All (λ (s : LiveSite). IsSome (spell s.start s.at)) plan.sites.items
  -- each chunk after those before it
  pub chunks : (j : ℕ) (chunk : List Change) → slice_get (chunks_of plan) j ≡ Some chunk → IsChunk plan.sites.items (take j (chunks_of plan)) chunk
