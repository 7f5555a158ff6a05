-- When a module is written of a plan.
use Rattle.std.specs.Prelude.{◌==◌, ◌&&◌, ℕ, ◌-◌, ◌%◌, ◌^◌, Bool, true, false, not, nat_lt, nat_le, List, length, slice_get, Option, Some, None}
use Rattle.std.specs.List.{list_all}
use Rattle.elf_build.specs.declared.plan.Plan.{Plan}
use Rattle.elf_build.specs.declared.plan.PlanSite.{PlanSite}
use Rattle.elf_build.specs.declared.plan.PlanSite.TheVariants.{Jump, Call, Trace}
use Rattle.elf_build.specs.declared.plan.PlanKey.{PlanKey}
use Rattle.elf_build.specs.declared.plan.KeyStart.{KeyStart}
use Rattle.elf_build.specs.declared.plan.KeyStart.TheVariants.{Count, Func}
use Rattle.elf_build.specs.declared.plan.PlanFunction.{PlanFunction}

-- an address lies in the text
abbrev pub is_in_text : Plan → ℕ → Bool
is_in_text plan at = nat_le plan.base at && nat_lt (at - plan.base) (length plan.text.items)

-- 1 to 64 bytes, none of them zero
abbrev pub is_name : List ℕ → Bool
is_name name = nat_lt 0 (length name) && nat_le (length name) 64 && list_all (λ byte. not (byte == 0)) name

abbrev pub is_count : KeyStart → Bool
is_count (Count count) = true
is_count (Func at) = false

-- a static key, and the key of a static call
abbrev pub is_switch : Option PlanKey → Bool
is_switch None = false
is_switch (Some key) = is_count key.start

abbrev pub is_callee : Option PlanKey → Bool
is_callee None = false
is_callee (Some key) = not (is_count key.start)

-- a site's addresses lie in the text, and its key is there and of its class
abbrev pub site_fits : Plan → PlanSite → Bool
site_fits plan (Jump at target key likely) =
    is_in_text plan at && is_in_text plan target && is_switch (slice_get plan.keys.items key)
site_fits plan (Call at key tail) = is_in_text plan at && is_callee (slice_get plan.keys.items key)
site_fits plan (Trace at) = is_in_text plan at

abbrev pub start_fits : KeyStart → Bool
start_fits (Count count) = nat_le count 2147483647
start_fits (Func at) = true

abbrev pub key_fits : PlanKey → Bool
key_fits key = is_name key.name.items && start_fits key.start

abbrev pub function_fits : Plan → PlanFunction → Bool
function_fits plan function = is_name function.name.items && is_in_text plan function.at

-- the text begins at a page from which all addresses of the file can be reached
abbrev pub has_place : Plan → Bool
has_place plan = plan.base % 4096 == 0 && nat_le plan.base (2 ^ 64 - 1048576)

-- there is a text, and nothing of the plan is too many
abbrev pub is_small : Plan → Bool
is_small plan =
    nat_lt 0 (length plan.text.items) && nat_le (length plan.text.items) 65536 && nat_le (length plan.sites.items) 1024
    && nat_le (length plan.keys.items) 1024 && nat_le (length plan.functions.items) 2048

-- a file can be written of the plan
abbrev pub fits : Plan → Bool
fits plan =
    has_place plan && is_small plan && list_all (site_fits plan) plan.sites.items && list_all key_fits plan.keys.items
    && list_all (function_fits plan) plan.functions.items
