-- The law is proved of the definitions.
use Rattle.switching.proofs.Reached as proofs
use Rattle.switching.proofs.laws.candidates_are_in_the_table.Goals as goal

pub returns : goal.returns
returns c = proofs.candidates_table
