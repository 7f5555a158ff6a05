-- The law is proved of the definitions.
use Rattle.switching.proofs.ChoiceRuns as proofs
use Rattle.switching.proofs.choice_laws.runs_are_there.Goals as goal

pub returns : goal.returns
returns c = proofs.runs_are_there
