-- The file that was written of a plan of the module is the module's.
use Rattle.std.proofs.Common.{◌≡◌, List, ℕ, Result, Ok, Err, IfOk}
use Rattle.elf_build.specs.declared.plan.Plan.{Plan}
use Rattle.small_module.specs.declared.Small.{Small}
use Rattle.small_module.specs.SmallModule.{written, IsFileOf, IsPlanOf}
use Rattle.small_module.proofs.Small.file.Goals as goal

file-of-plan : {V E : Type 0} (items : V → List ℕ) (small : Small) (plan : Plan) (result : Result V E) → IsPlanOf small plan → IfOk result (λ file. items file ≡ written plan) → IfOk result (λ file. IsFileOf small (items file))
file-of-plan items small plan (Ok file) is made = (plan, is, made)
file-of-plan items small plan (Err fault) is made = made

pub returns : goal.returns
returns c = file-of-plan (λ file. file.items) c.args.self.now c.in_ok-plan.field-0 c.file_of.result c.in_ok-plan.ensures c.file_of.ensures
