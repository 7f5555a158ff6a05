use Rattle.module_image.proofs.Lent.{sites_laid_out}
use Rattle.module_laws.proofs.sites_are_laid_out.Goals as goal

pub returns : goal.returns
returns c = sites_laid_out
