use Rattle.live_text.proofs.Items.{writes_due, writes_placed, requests_due}
use Rattle.live_text.proofs.laws.items_are_due.Goals as goal

pub returns : goal.returns
returns c = record { writes = writes_due; placed = writes_placed; requests = requests_due }
