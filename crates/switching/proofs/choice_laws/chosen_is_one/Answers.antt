-- The law is proved of the definitions.
use Rattle.switching.proofs.ChoiceOne as proofs
use Rattle.switching.proofs.choice_laws.chosen_is_one.Goals as goal

pub returns : goal.returns
returns c = proofs.chosen_is_one
