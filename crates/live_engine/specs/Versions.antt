-- Which form a site has after some chunks of a plan, and which of these versions a processor may do.
use Rattle.std.specs.Prelude.{◌≡◌, ◌⊎◌, ◌<◌, ◌==◌, ◌||◌, ℕ, zero, suc, ◌+◌, ◌/◌, ◌%◌, Bool, true, false, not, nat_lt, if◌then◌else◌, length, Option, Some, None, is_some}
use Rattle.live_text.specs.declared.plan.LivePlan.{LivePlan}
use Rattle.live_text.specs.declared.view.View.{View}
use Rattle.live_text.specs.Own.{site_of}
use Rattle.live_text.specs.Versions.{place_in, breakpoint_write}

-- a site of the plan, by its number, begins at an address
pub record IsSiteAt (plan : LivePlan) (site at : ℕ) : Type 0 where
  pub listed : site < length plan.sites.items
  pub begins : (site_of plan site).at ≡ at

-- the versions of a site while chunk j is poked, where so many requests of that chunk were acknowledged: a site that the
-- chunk doesn't change has version j, a changed one has j or j + 1 before the first acknowledgement, and j + 1 after it
abbrev pub IsOneOf : Bool → ℕ → ℕ → ℕ → Type 0
IsOneOf false acked j n = n ≡ j
IsOneOf true zero j n = (n ≡ j) ⊎ (n ≡ j + 1)
IsOneOf true (suc acked) j n = n ≡ j + 1

-- the versions of a site that a processor may do which has acknowledged request g: there are three requests a chunk
abbrev pub IsAllowed : LivePlan → ℕ → ℕ → ℕ → Type 0
IsAllowed plan site g n = IsOneOf (is_some (place_in plan (g / 3) site)) (g % 3) (g / 3) n

-- a seat's processor does the new form alone of the site with this place in chunk j: it has acknowledged a request of the
-- chunk, or its mark isn't before the breakpoint there
abbrev pub is_past : View → ℕ → Option ℕ → Bool
is_past v j None = false
is_past v j (Some place) = not (v.cpu.ack % 3 == 0) || nat_lt (breakpoint_write v.shape j place) v.cpu.mark

-- the floor of a site: the lowest version that a seat's processor may still do
abbrev pub floor : LivePlan → View → ℕ → ℕ
floor plan v site =
    let j = v.cpu.ack / 3 in
    if is_past v j (place_in plan j site) then j + 1 else j
