use Rattle.std.proofs.Common.{ℕ, Some, refl}
use Rattle.module_image.specs.Text.{layout_in}
use Rattle.module_image.proofs.Leading.{unless_astray, lead_more, function_first, functions_reach}
use Rattle.module_image.proofs.aims.bad_function.Goals as goal

pub returns-in-Some : goal.returns-in-Some
returns-in-Some c = function_first (layout_in c.args.code.now) c.args.functions.now c.loop-function.function-index _ c.in-Some.aim c.loop-function-test.true c.loop-function.invariant c.in-Some.ensures

pub loop-function-preserved : goal.loop-function-preserved
loop-function-preserved c = lead_more (layout_in c.args.code.now) (λ (f : ℕ). Some f) c.args.functions.now c.loop-function.function-index 0 _ c.loop-function.invariant c.loop-function-test.true refl (unless_astray c.astray.result _ _ c.astray.ensures c.in_default.not-Some)

pub returns : goal.returns
returns c = functions_reach (layout_in c.args.code.now) c.args.functions.now c.loop-function.function-index c.loop-function-test.false c.loop-function.invariant
