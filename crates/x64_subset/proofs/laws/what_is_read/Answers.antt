-- The law is proved of the definitions.
use Rattle.x64_subset.proofs.WhatIsRead as proofs
use Rattle.x64_subset.proofs.laws.what_is_read.Goals as goal

pub returns : goal.returns
returns c = proofs.what_is_read
