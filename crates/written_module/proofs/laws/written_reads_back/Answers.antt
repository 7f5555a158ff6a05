-- The law stands on the lemma `reads-back`.
use Rattle.written_module.proofs.ReadBack.{reads-back}
use Rattle.written_module.proofs.laws.written_reads_back.Goals as goal

pub returns : goal.returns
returns c = reads-back
