-- The law is proved of the definitions.
use Rattle.switching.proofs.NeverOld as proofs
use Rattle.switching.proofs.laws.never_old_after_new.Goals as goal

pub returns : goal.returns
returns c = proofs.never_old
