use Rattle.key_state.proofs.Going.{outcomes_on}
use Rattle.key_state.proofs.laws.outcomes_go_on.Goals as goal

pub returns : goal.returns
returns c = outcomes_on
