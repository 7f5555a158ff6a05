use Rattle.std.proofs.Common.{◌≡◌}
use Rattle.stale_fetch.specs.Log.{log_shape}
use Rattle.stale_fetch.specs.Windows.{window_shape}
use Rattle.fetch_tests.proofs.tests.both_texts_answer_the_same.Given as goal

abbrev pub invariant-loop : goal.invariant-loop
invariant-loop g l = record {
  log : log_shape l.log ≡ log_shape l.initial.log;
  windows : window_shape l.windows ≡ window_shape l.initial.windows;
}
