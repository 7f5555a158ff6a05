use Rattle.module_image.proofs.PlainFlows.{plain_flows}
use Rattle.module_laws.proofs.plain_instructions_flow.Goals as goal

pub returns : goal.returns
returns c = plain_flows
