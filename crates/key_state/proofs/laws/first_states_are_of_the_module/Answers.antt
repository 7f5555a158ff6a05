use Rattle.key_state.proofs.First.{first_are}
use Rattle.key_state.proofs.laws.first_states_are_of_the_module.Goals as goal

pub returns : goal.returns
returns c = first_are
