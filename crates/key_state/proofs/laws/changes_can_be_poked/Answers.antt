use Rattle.key_state.proofs.Poking.{can_poke}
use Rattle.key_state.proofs.laws.changes_can_be_poked.Goals as goal

pub returns : goal.returns
returns c = can_poke
