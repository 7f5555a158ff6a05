use Rattle.module_image.proofs.StartLaws.{first_states}
use Rattle.module_laws.proofs.first_states_lead_well.Goals as goal

pub returns : goal.returns
returns c = first_states
