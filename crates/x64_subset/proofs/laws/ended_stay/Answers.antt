-- The law is proved of the definitions.
use Rattle.x64_subset.proofs.Ended as proofs
use Rattle.x64_subset.proofs.laws.ended_stay.Goals as goal

pub returns : goal.returns
returns c = proofs.ended_stay
