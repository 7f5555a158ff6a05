use Rattle.module_image.proofs.Lent.{key_names_known}
use Rattle.module_laws.proofs.names_are_known.Goals as goal

pub returns : goal.returns
returns c = key_names_known
