use Rattle.recorded_run.proofs.Headline.{legal_runs_are_whole}
use Rattle.recorded_run.proofs.laws.legal_runs_are_whole.Goals as goal

pub returns : goal.returns
returns c = legal_runs_are_whole
