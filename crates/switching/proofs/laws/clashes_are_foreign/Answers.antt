-- The law is proved of the definitions.
use Rattle.switching.proofs.Reached as proofs
use Rattle.switching.proofs.laws.clashes_are_foreign.Goals as goal

pub returns : goal.returns
returns c = proofs.clashes
