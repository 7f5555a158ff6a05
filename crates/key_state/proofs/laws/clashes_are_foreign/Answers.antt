use Rattle.key_state.proofs.Clashing.{clashes_foreign}
use Rattle.key_state.proofs.laws.clashes_are_foreign.Goals as goal

pub returns : goal.returns
returns c = clashes_foreign
