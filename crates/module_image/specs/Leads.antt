-- Where single units, sites and keys lead, and whether a unit begins there.
use Rattle.std.specs.Prelude.{◌≡◌, ◌==◌, ℕ, ◌-◌, Bool, true, false, nat_lt, if◌then◌else◌, List, slice_get, Option, Some, None, IfSome}
use Rattle.module_parts.specs.declared.key.KeyClass.{KeyClass}
use Rattle.module_parts.specs.declared.key.KeyClass.TheVariants.{Jump as JumpKey, Call as CallKey}
use Rattle.module_parts.specs.declared.site.SiteKind.{SiteKind}
use Rattle.module_parts.specs.declared.site.SiteKind.TheVariants.{Jump, Call, Tail, Trace}
use Rattle.module_parts.specs.declared.unit.Unit.{Unit}
use Rattle.module_parts.specs.declared.unit.Unit.TheVariants.{Nothing, Plain, Site as PatchedSite}
use Rattle.module_parts.specs.declared.unit.Aim.{Aim}
use Rattle.module_image.specs.Layout.{Layout, IsStart}

-- a unit begins at an address, by a list of units
abbrev pub is_unit : Option Unit → Bool
is_unit None = false
is_unit (Some Nothing) = false
is_unit (Some (Plain insn len)) = true
is_unit (Some (PatchedSite n)) = true

abbrev pub begins_at : ℕ → List Unit → ℕ → Bool
begins_at base units at = if nat_lt at base then false else is_unit (slice_get units (at - base))

-- where a jump site leads
abbrev pub jump_target : SiteKind → Option ℕ
jump_target (Jump target key likely) = Some target
jump_target (Call key) = None
jump_target (Tail key) = None
jump_target Trace = None

-- the function of a call's key, where it has one
abbrev pub key_target : KeyClass → ℕ → Option ℕ
key_target JumpKey start = None
key_target CallKey start = if start == 0 then None else Some start

-- what leads somewhere leads to a start
abbrev pub LeadsWell : Layout → Option ℕ → Type 0
LeadsWell t to = IfSome to (IsStart t)

-- it leads where no unit begins
pub record IsAstray (t : Layout) (from : ℕ) (to : Option ℕ) (aim : Aim) : Type 0 where
  pub same : aim.from ≡ from
  pub leads : to ≡ Some aim.to
  pub bad : IsStart t aim.to → ⊥
