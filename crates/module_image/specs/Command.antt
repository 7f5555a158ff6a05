-- Which commands are of a module.
use Rattle.std.specs.Prelude.{◌≡◌, ◌⊎◌, ℕ, ⊤, List, Some}
use Rattle.module_parts.specs.declared.command.Command.{Command}
use Rattle.module_parts.specs.declared.command.Command.TheVariants.{Inc, Dec, Enable, Disable, Target, Trace, TraceAll}
use Rattle.module_parts.specs.declared.key.KeyClass.TheVariants.{Jump as JumpKey, Call as CallKey}
use Rattle.module_image.specs.Layout.{IsStart}
use Rattle.module_image.specs.Lent.{IsKeyOf, IsTraceSite}
use Rattle.module_image.specs.Module.{Module, IsAccepted, layout_of}
use Rattle.module_names.specs.Names.{value_of}

-- a name of a function stands for an address
abbrev pub IsFunction : Module → ℕ → Type 0
IsFunction m at = (name : List ℕ) × (value_of name m.functions ≡ Some at)

-- counts are of static keys; a static call's key is given no function, which is 0, or one of the module's; sites that
-- are traced are trace sites
abbrev pub IsCommandOf : Module → Command → Type 0
IsCommandOf m (Inc key) = IsKeyOf m.keys JumpKey key
IsCommandOf m (Dec key) = IsKeyOf m.keys JumpKey key
IsCommandOf m (Enable key) = IsKeyOf m.keys JumpKey key
IsCommandOf m (Disable key) = IsKeyOf m.keys JumpKey key
IsCommandOf m (Target key func) = IsKeyOf m.keys CallKey key × ((func ≡ 0) ⊎ IsFunction m func)
IsCommandOf m (Trace site on) = IsTraceSite m.sites site
IsCommandOf m (TraceAll on) = ⊤

-- what a command gives to a static call's key is no function, or one that is a start, as `LeadWell` asks
abbrev pub CommandsLeadWell : Type 0
CommandsLeadWell =
    (m : Module) (key func : ℕ) → IsAccepted m → IsCommandOf m (Target key func) → (func ≡ 0) ⊎ IsStart (layout_of m) func
