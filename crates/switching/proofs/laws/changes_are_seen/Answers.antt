-- The law is proved of the definitions.
use Rattle.switching.proofs.Reached as proofs
use Rattle.switching.proofs.laws.changes_are_seen.Goals as goal

pub returns : goal.returns
returns c = proofs.changes_seen
