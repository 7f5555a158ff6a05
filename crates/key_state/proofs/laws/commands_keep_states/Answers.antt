use Rattle.key_state.proofs.Keeping.{commands_keep}
use Rattle.key_state.proofs.laws.commands_keep_states.Goals as goal

pub returns : goal.returns
returns c = commands_keep
