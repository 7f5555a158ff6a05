use Rattle.module_laws.proofs.SiteFlows.{patched_flows}
use Rattle.module_laws.proofs.patched_sites_flow.Goals as goal

pub returns : goal.returns
returns c = patched_flows
