-- The law is proved of the definitions.
use Rattle.switching.proofs.Reached as proofs
use Rattle.switching.proofs.laws.candidates_are_at_most_two.Goals as goal

pub returns : goal.returns
returns c = proofs.two_candidates
