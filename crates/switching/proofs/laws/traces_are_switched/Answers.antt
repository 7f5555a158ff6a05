-- The law is proved of the definitions.
use Rattle.switching.proofs.Theorem as proofs
use Rattle.switching.proofs.laws.traces_are_switched.Goals as goal

pub returns : goal.returns
returns c = proofs.traces_switched
