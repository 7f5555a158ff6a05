use Rattle.poke_base.proofs.Listed.{is_listed}
use Rattle.poke_base.proofs.memory.MemoryHost.begin.Goals as goal

pub returns-clause-listed : goal.returns-clause-listed
returns-clause-listed c = is_listed _ _ _ (rw (c.deref.ensures.value, c.saturating_add-self.ensures) at c.contains.ensures.cases)
