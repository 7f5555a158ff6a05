-- The law is proved of the definitions.
use Rattle.switching.proofs.Passing as proofs
use Rattle.switching.proofs.laws.nothing_is_torn.Goals as goal

pub returns : goal.returns
returns c = proofs.nothing_torn
