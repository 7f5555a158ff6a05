use Rattle.std.proofs.Common.{◌≡◌, ◌≤◌, None, replicate, vec_capacity}
use Rattle.stale_fetch.proofs.window.closed_rows.Given as goal

abbrev pub invariant-loop : goal.invariant-loop
invariant-loop l = record {
  made : l.rows.items ≡ replicate l.counter (replicate l.size None);
  room : l.cpus ≤ vec_capacity l.rows;
}
