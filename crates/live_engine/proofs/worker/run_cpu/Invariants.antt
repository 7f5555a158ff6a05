-- The processor is under way.
use Rattle.live_engine.proofs.Treading.{IsUnderWay}
use Rattle.live_engine.proofs.worker.run_cpu.Given as goal

abbrev pub invariant-loop-turn : goal.invariant-loop-turn
invariant-loop-turn g l = IsUnderWay l.image l.text l.turns l.turn l.initial.job.entry l.job
