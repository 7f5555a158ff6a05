use Rattle.recorded_run.proofs.Replays.{replays_are_one}
use Rattle.recorded_run.proofs.laws.replays_are_one.Goals as goal

pub returns : goal.returns
returns c = replays_are_one
