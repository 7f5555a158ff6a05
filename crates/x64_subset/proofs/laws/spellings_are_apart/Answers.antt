-- The law is proved of the definitions.
use Rattle.x64_subset.proofs.Lawful as lawful
use Rattle.x64_subset.proofs.laws.spellings_are_apart.Goals as goal

pub returns : goal.returns
returns c = lawful.spellings_are_apart
