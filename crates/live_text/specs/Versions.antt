-- Which form a site has after some chunks of a plan, and where it stands in a chunk.
use Rattle.std.specs.Prelude.{◌==◌, ℕ, ◌+◌, ◌*◌, Bool, List, [], take, position, slice_index_or, Option}
use Rattle.insn_forms.specs.declared.forms.Form.{Form}
use Rattle.insn_forms.specs.declared.forms.Change.{Change}
use Rattle.live_text.specs.declared.plan.LivePlan.{LivePlan}
use Rattle.live_text.specs.declared.view.Shape.{Shape}
use Rattle.live_text.specs.Own.{site_of}
use Rattle.live_text.specs.Past.{cut}
use Rattle.live_text.specs.Plan.{chunks_of, form_after}

-- the form of a site after the first n chunks of the plan
abbrev pub version : LivePlan → ℕ → ℕ → Form
version plan site n = form_after (take n (chunks_of plan)) (site_of plan site).at (site_of plan site).start

-- the change of a site from version n to the next
abbrev pub version_change : LivePlan → ℕ → ℕ → Change
version_change plan site n =
    record { at = (site_of plan site).at; old = version plan site n; new = version plan site (n + 1) }

-- chunk j, counted from 0; past the last chunk it has no change
abbrev pub chunk_of : LivePlan → ℕ → List Change
chunk_of plan j = slice_index_or (chunks_of plan) j []

-- a change is of the site at an address
abbrev pub is_at : ℕ → Change → Bool
is_at at c = c.at == at

-- the place of a site among the changes of chunk j; none where it isn't one of them
abbrev pub place_in : LivePlan → ℕ → ℕ → Option ℕ
place_in plan j site = position (is_at (site_of plan site).at) (chunk_of plan j)

-- the number of the plan's write that puts the breakpoint of chunk j at the change with this place
abbrev pub breakpoint_write : Shape → ℕ → ℕ → ℕ
breakpoint_write p j place = cut p (3 * j) + place
