use Rattle.recorded_run.proofs.Replays.{tallies_are_one}
use Rattle.recorded_run.proofs.laws.tallies_are_one.Goals as goal

pub returns : goal.returns
returns c = tallies_are_one
