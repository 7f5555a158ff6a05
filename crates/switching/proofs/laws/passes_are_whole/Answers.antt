-- The law is proved of the definitions.
use Rattle.switching.proofs.Passing as proofs
use Rattle.switching.proofs.laws.passes_are_whole.Goals as goal

pub returns : goal.returns
returns c = proofs.passes_whole
