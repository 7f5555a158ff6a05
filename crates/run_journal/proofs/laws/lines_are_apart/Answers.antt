use Rattle.run_journal.proofs.laws.lines_are_apart.Goals as goal
use Rattle.run_journal.proofs.Apart.{lines_are_apart}

pub returns : goal.returns
returns c = lines_are_apart
