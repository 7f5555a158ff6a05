use Rattle.module_laws.proofs.HeldWanted.{wanted_held}
use Rattle.module_laws.proofs.sites_hold_what_they_want.Goals as goal

pub returns : goal.returns
returns c = wanted_held
