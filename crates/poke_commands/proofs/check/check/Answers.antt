use Rattle.std.proofs.Common.{Err, Ok, inr, refl}
use Rattle.poke_faults.specs.declared.fault.Fault.TheVariants.{Write}
use Rattle.poke_commands.specs.Check.{accepted_text}
use Rattle.poke_commands.specs.Command.{Check}
use Rattle.poke_commands.specs.Saying.{CheckSays}
use Rattle.poke_commands.proofs.Ways.{at_exit, module_refused, one_fails, one_prints}
use Rattle.poke_commands.proofs.check.check.Goals as goal

pub returns-in_err-image : goal.returns-in_err-image
returns-in_err-image g c =
    at_exit (Check c.args.name.now) _ _ c.in_err-image.field-0.0 c.from_residual.result c.from_residual.ensures.1
    (one_fails (Check c.args.name.now) c.args.name.now _ _ _ _ c.in_err-image.field-0.0 refl c.in_err-image.ensures (λ bytes why holds refused. (bytes, holds, module_refused CheckSays bytes why refused)))

pub returns-in_err-print_image : goal.returns-in_err-print_image
returns-in_err-print_image g c =
    let m = c.in_ok-image.image in
    at_exit (Check c.args.name.now) _ _ Write c.from_residual-in_err-print_image.result c.from_residual-in_err-print_image.ensures.1
    (one_prints (Check c.args.name.now) c.args.name.now _ _ _ _ _ m (accepted_text m.base m.text m.sites) (Err c.in_err-print_image.field-0.0) refl c.in_ok-image.ensures c.in_err-print_image.ensures (λ bytes holds accepts. (bytes, holds, inr (m, accepts, refl))) (record { begins = λ s says. says; coupled = λ s. tt }))

pub returns : goal.returns
returns g c =
    let m = c.in_ok-image.image in
    one_prints (Check c.args.name.now) c.args.name.now _ _ _ _ _ m (accepted_text m.base m.text m.sites) (Ok tt) refl c.in_ok-image.ensures c.in_ok-print_image.ensures (λ bytes holds accepts. (bytes, holds, inr (m, accepts, refl))) (record { begins = λ s says. says; coupled = λ s. tt })
