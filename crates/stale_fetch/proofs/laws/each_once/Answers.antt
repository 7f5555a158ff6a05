use Rattle.stale_fetch.specs.Since.{each_once}
use Rattle.stale_fetch.proofs.laws.each_once.Goals as goal

pub returns : goal.returns
returns c = record { law = each_once }
