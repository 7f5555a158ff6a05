use Rattle.module_image.proofs.Lent.{trace_sites_found}
use Rattle.module_laws.proofs.trace_sites_are_found.Goals as goal

pub returns : goal.returns
returns c = trace_sites_found
