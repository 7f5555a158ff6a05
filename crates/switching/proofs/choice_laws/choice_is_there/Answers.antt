-- The law is proved of the definitions.
use Rattle.switching.proofs.ChoiceThere as proofs
use Rattle.switching.proofs.choice_laws.choice_is_there.Goals as goal

pub returns : goal.returns
returns c = proofs.choice_is_there
