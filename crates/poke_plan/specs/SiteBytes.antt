-- The bytes that a plan file tells of.
use Rattle.std.specs.Prelude.{ℕ, ◌-◌, nat_le, if◌then◌else◌, Option, None, slice_get}
use Rattle.poke_plan.specs.declared.plan_line.SiteBytes.{SiteBytes}

-- the byte at an address, none outside of the site
abbrev pub site_byte : SiteBytes → ℕ → Option ℕ
site_byte site at = if nat_le site.at at then slice_get site.bytes.items (at - site.at) else None
