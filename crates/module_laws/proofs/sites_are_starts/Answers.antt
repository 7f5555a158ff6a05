use Rattle.module_image.proofs.StartLaws.{sites_start}
use Rattle.module_laws.proofs.sites_are_starts.Goals as goal

pub returns : goal.returns
returns c = sites_start
