-- The plan and the file of a small module.
use Rattle.std.specs.Prelude.{◌≡◌, ℕ, nat_le, List, [], length, map, if◌then◌else◌}
use Rattle.elf_build.specs.declared.plan.Plan.{Plan}
use Rattle.elf_build.specs.declared.plan.PlanFunction.{PlanFunction}
use Rattle.elf_build.specs.declared.plan.PlanKey.{PlanKey}
use Rattle.elf_build.specs.File as file
use Rattle.elf_build.specs.Fits.{fits}
use Rattle.small_module.specs.declared.Small.{Small}

-- a name; none where it has more than 64 bytes
abbrev pub named : List ℕ → List ℕ
named bytes = if nat_le (length bytes) 64 then bytes else []

-- its text stands at 401000
pub record IsPlanOf (small : Small) (plan : Plan) : Type 0 where
  pub base : plan.base ≡ 0x401000
  pub text : plan.text.items ≡ small.text.now
  pub sites : plan.sites.items ≡ small.sites.now
  pub keys : map (λ (key : PlanKey). key.start) plan.keys.items ≡ map (λ key. key.1) small.keys.now
  pub key_names : map (λ (key : PlanKey). key.name.items) plan.keys.items ≡ map (λ key. named key.0.now) small.keys.now
  pub functions : map (λ (function : PlanFunction). function.at) plan.functions.items ≡ map (λ function. function.1) small.functions.now
  pub function_names : map (λ (function : PlanFunction). function.name.items) plan.functions.items ≡ map (λ function. named function.0.now) small.functions.now

-- the file of a plan; none where it doesn't fit
abbrev pub written : Plan → List ℕ
written plan = if fits plan then file.file_of plan else []

abbrev pub IsFileOf : Small → List ℕ → Type 0
IsFileOf small bytes = (plan : Plan) × IsPlanOf small plan × (bytes ≡ written plan)
