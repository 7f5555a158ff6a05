use Rattle.module_image.proofs.StartLaws.{commands_lead}
use Rattle.module_laws.proofs.commands_lead_well.Goals as goal

pub returns : goal.returns
returns c = commands_lead
