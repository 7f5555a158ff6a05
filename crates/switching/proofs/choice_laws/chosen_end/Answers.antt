-- The law is proved of the definitions.
use Rattle.switching.proofs.ChoiceEnd as proofs
use Rattle.switching.proofs.choice_laws.chosen_end.Goals as goal

pub returns : goal.returns
returns c = proofs.chosen_end
