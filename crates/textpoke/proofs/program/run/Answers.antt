use Rattle.textpoke.proofs.Faults.{fault_ends}
use Rattle.textpoke.proofs.program.run.Goals as goal

pub returns-in-Err : goal.returns-in-Err
returns-in-Err g c = fault_ends _ _ _ _ _ _ c.in-Err.ensures c.report.ensures c.from-in-Err.ensures
