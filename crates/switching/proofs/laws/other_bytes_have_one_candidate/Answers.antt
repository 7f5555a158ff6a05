-- The law is proved of the definitions.
use Rattle.switching.proofs.Reached as proofs
use Rattle.switching.proofs.laws.other_bytes_have_one_candidate.Goals as goal

pub returns : goal.returns
returns c = proofs.other_bytes
