-- The law stands on the lemma `accepted`.
use Rattle.generated_module.proofs.Accepting.{accepted}
use Rattle.generated_module.proofs.laws.generated_are_accepted.Goals as goal

pub returns : goal.returns
returns c = accepted
