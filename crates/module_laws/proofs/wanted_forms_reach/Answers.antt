use Rattle.module_laws.proofs.Reaching.{forms_reach}
use Rattle.module_laws.proofs.wanted_forms_reach.Goals as goal

pub returns : goal.returns
returns c = forms_reach
