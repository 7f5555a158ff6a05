-- The way through a text: the units that are there before it, and why it can't be followed.
use Rattle.std.specs.Prelude.{◌≡◌, ◌<◌, ◌≤◌, ◌⊎◌, ℕ, ◌+◌, Bool, true, false, List, length, slice_get, Option, Some, None}
use Rattle.module_parts.specs.declared.refused.Refused.{Refused}
use Rattle.module_parts.specs.declared.refused.Refused.TheVariants.{Undecoded, NoMemory}
use Rattle.module_parts.specs.declared.unit.Unit.{Unit}
use Rattle.module_parts.specs.declared.unit.Unit.TheVariants.{Nothing, Plain, Site as PatchedSite}
use Rattle.module_image.specs.Layout.{Layout, IsUndecoded, site_at}

-- the unit that a site is, and nothing where there is none
abbrev pub unit_of_site : Option ℕ → Unit
unit_of_site None = Nothing
unit_of_site (Some n) = PatchedSite n

-- the site that a unit is
abbrev pub site_in : Option Unit → Option ℕ
site_in None = None
site_in (Some Nothing) = None
site_in (Some (Plain insn len)) = None
site_in (Some (PatchedSite n)) = Some n

abbrev pub is_nothing : Unit → Bool
is_nothing Nothing = true
is_nothing (Plain insn len) = false
is_nothing (PatchedSite n) = false

-- from an offset of a text on, each site that isn't foreign stands where it begins, and nothing else does
pub record HasSites (t : Layout) (units : List Unit) (from : ℕ) : Type 0 where
  pub same_length : length units ≡ length t.text
  pub each : (k : ℕ) → from ≤ k → k < length t.text → slice_get units k ≡ Some (unit_of_site (site_at t.sites (t.base + k)))

-- why a text isn't swept: no unit begins at a start
abbrev pub IsSweepFault : Layout → Refused → Type 0
IsSweepFault t why = (why ≡ NoMemory) ⊎ ((at : ℕ) × (why ≡ Undecoded at) × IsUndecoded t at)
