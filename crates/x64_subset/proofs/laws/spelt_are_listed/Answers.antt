-- The law is proved of the definitions.
use Rattle.x64_subset.proofs.ReadingLaws as proofs
use Rattle.x64_subset.proofs.laws.spelt_are_listed.Goals as goal

pub returns : goal.returns
returns c = proofs.spelt_are_listed
