use Rattle.std.proofs.Common.{subst}
use Rattle.std.specs.Prelude.{IfSome}
use Rattle.module_image.specs.Inside.{module_of}
use Rattle.module_image.specs.Lent.{IsPlaceOf}
use Rattle.module_image.specs.Module.{Module}
use Rattle.module_image.proofs.Lent.{place_of}
use Rattle.module_image.proofs.image.Image.function_named.Goals as goal

pub returns-clause-place : goal.returns-clause-place
returns-clause-place c =
    let accepted = c.self.invariant.is in
    subst (λ (m : Module). IfSome c.get.result (IsPlaceOf m)) c.self.view_is
    (place_of accepted.elf (module_of c.self.inside) c.args.name.now c.get.result accepted.is c.get.ensures)
