-- The law is proved of the definitions.
use Rattle.switching.proofs.Theorem as proofs
use Rattle.switching.proofs.laws.journals_are_done.Goals as goal

pub returns : goal.returns
returns c = proofs.journals_done
