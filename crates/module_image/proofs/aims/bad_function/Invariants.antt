use Rattle.std.proofs.Common.{ℕ, Some}
use Rattle.module_image.specs.Text.{layout_in}
use Rattle.module_image.proofs.Leading.{LeadBelow}
use Rattle.module_image.proofs.aims.bad_function.Given as goal

abbrev pub invariant-loop-function : goal.invariant-loop-function
invariant-loop-function l = LeadBelow (layout_in l.code) (λ (f : ℕ). Some f) l.functions l.function-index
