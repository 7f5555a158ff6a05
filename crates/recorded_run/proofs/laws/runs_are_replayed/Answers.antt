use Rattle.recorded_run.proofs.Replays.{runs_are_replayed}
use Rattle.recorded_run.proofs.laws.runs_are_replayed.Goals as goal

pub returns : goal.returns
returns c = runs_are_replayed
