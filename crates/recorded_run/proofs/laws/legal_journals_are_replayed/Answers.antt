use Rattle.recorded_run.proofs.Replays.{legal_journals_are_replayed}
use Rattle.recorded_run.proofs.laws.legal_journals_are_replayed.Goals as goal

pub returns : goal.returns
returns c = legal_journals_are_replayed
