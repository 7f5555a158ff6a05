use Rattle.module_laws.proofs.FileBytes.{foreign_sites}
use Rattle.module_laws.proofs.foreign_sites_are_the_files.Goals as goal

pub returns : goal.returns
returns c = foreign_sites
