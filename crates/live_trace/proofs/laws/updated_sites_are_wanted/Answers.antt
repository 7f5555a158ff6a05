use Rattle.live_trace.proofs.LastSites.{updated_sites_are_wanted}
use Rattle.live_trace.proofs.laws.updated_sites_are_wanted.Goals as goal

pub returns : goal.returns
returns c = updated_sites_are_wanted
