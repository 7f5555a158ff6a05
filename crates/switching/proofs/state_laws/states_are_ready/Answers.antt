-- The law is proved of the definitions.
use Rattle.switching.proofs.Ready as proofs
use Rattle.switching.proofs.state_laws.states_are_ready.Goals as goal

pub returns : goal.returns
returns c = proofs.states_ready
