use Rattle.module_image.proofs.Lent.{trace_sites_traced}
use Rattle.module_laws.proofs.traced_sites_have_one.Goals as goal

pub returns : goal.returns
returns c = trace_sites_traced
