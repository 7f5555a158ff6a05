use Rattle.stale_fetch.specs.Since.{candidates_are_values}
use Rattle.stale_fetch.proofs.laws.candidates_are_values.Goals as goal

pub returns : goal.returns
returns c = record { law = candidates_are_values }
