use Rattle.module_image.proofs.Lent.{counts_fit}
use Rattle.module_laws.proofs.counts_fit.Goals as goal

pub returns : goal.returns
returns c = counts_fit
