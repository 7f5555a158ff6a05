-- The law is proved of the definitions.
use Rattle.x64_subset.proofs.Lawful as lawful
use Rattle.x64_subset.proofs.laws.forms_are_instructions.Goals as goal

pub returns : goal.returns
returns c = lawful.forms_are_instructions
