-- The law is proved of the definitions.
use Rattle.switching.proofs.Ending as proofs
use Rattle.switching.proofs.laws.endings_are_outcomes.Goals as goal

pub returns : goal.returns
returns c = proofs.endings
