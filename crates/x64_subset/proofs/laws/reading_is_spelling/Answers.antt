-- The law is proved of the definitions.
use Rattle.x64_subset.proofs.ReadingLaws as proofs
use Rattle.x64_subset.proofs.laws.reading_is_spelling.Goals as goal

pub returns : goal.returns
returns c = proofs.reading_is_spelling
