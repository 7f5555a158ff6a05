-- The law stands on the lemma `bench-read`.
use Rattle.generated_module.proofs.BenchScripts.{bench-read}
use Rattle.generated_module.proofs.laws.bench_scripts_are_read.Goals as goal

pub returns : goal.returns
returns c = bench-read
