-- Each call runs one processor fewer.
use Rattle.std.proofs.Common.{◌+◌, ◌*◌, vec_len}
use Rattle.live_engine.proofs.worker.«+fn-run_cpus-join+arg2+run_cpus».Given as goal

abbrev pub decreases-run_cpus : goal.decreases-run_cpus
decreases-run_cpus g l = 2 * vec_len l.jobs

abbrev pub decreases-join+arg2 : goal.decreases-join+arg2
decreases-join+arg2 g l = 2 * vec_len l.jobs + 1
