-- The law is proved of the definitions.
use Rattle.switching.proofs.Reached as proofs
use Rattle.switching.proofs.laws.sites_hold_what_is_wanted.Goals as goal

pub returns : goal.returns
returns c = proofs.sites_hold
