-- The law is proved of the definitions.
use Rattle.switching.proofs.ChoiceLegal as proofs
use Rattle.switching.proofs.choice_laws.chosen_are_legal.Goals as goal

pub returns : goal.returns
returns c = proofs.chosen_are_legal
