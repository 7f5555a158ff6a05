use Rattle.live_text.proofs.Numbers.{values_are}
use Rattle.live_text.proofs.laws.values_are_bytes.Goals as goal

pub returns : goal.returns
returns c = record { law = values_are }
