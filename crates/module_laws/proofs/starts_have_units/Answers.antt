use Rattle.module_image.proofs.Lent.{starts_units}
use Rattle.module_laws.proofs.starts_have_units.Goals as goal

pub returns : goal.returns
returns c = starts_units
