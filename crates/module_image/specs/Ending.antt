-- The unit at the end of a text.
use Rattle.std.specs.Prelude.{◌==◌, ◌&&◌, ℕ, ◌-◌, Bool, not, length}
use Rattle.module_parts.specs.declared.unit.Unit.{Unit}
use Rattle.module_image.specs.Layout.{Layout, unit_len, may_end}

-- a unit at an offset ends with the text, and another may follow it
abbrev pub falls_off : Layout → ℕ → Unit → Bool
falls_off t offset unit = unit_len t unit == length t.text - offset && not (may_end t unit)
