use Rattle.std.proofs.Common.{subst}
use Rattle.std.specs.Prelude.{MatchOption}
use Rattle.module_image.specs.First.{HasNone}
use Rattle.module_image.specs.Inside.{module_of}
use Rattle.module_image.specs.Lent.{IsPlaceOf}
use Rattle.module_image.specs.Module.{Module}
use Rattle.module_image.specs.Refusals.{IsTrace}
use Rattle.module_image.proofs.Lent.{tracer_place}
use Rattle.module_image.proofs.image.Image.tracer.Goals as goal

pub returns-clause-place : goal.returns-clause-place
returns-clause-place c =
    let accepted = c.self.invariant.is in
    subst (λ (m : Module). MatchOption c.self.inside.tracer (HasNone IsTrace m.sites) (IsPlaceOf m)) c.self.view_is
    (tracer_place accepted.elf (module_of c.self.inside) c.self.inside.tracer accepted.is c.self.invariant.tracer)
