-- The law is proved of the definitions.
use Rattle.x64_subset.proofs.ReadingLaws as proofs
use Rattle.x64_subset.proofs.laws.listed_are_spelt.Goals as goal

pub returns : goal.returns
returns c = proofs.listed_are_spelt
