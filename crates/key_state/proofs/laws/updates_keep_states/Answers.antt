use Rattle.key_state.proofs.Keeping.{updates_keep}
use Rattle.key_state.proofs.laws.updates_keep_states.Goals as goal

pub returns : goal.returns
returns c = updates_keep
