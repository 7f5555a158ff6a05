-- The law is proved of the definitions.
use Rattle.switching.proofs.Passing as proofs
use Rattle.switching.proofs.laws.only_the_new_after_return.Goals as goal

pub returns : goal.returns
returns c = proofs.only_new
