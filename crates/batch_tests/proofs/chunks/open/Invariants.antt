use Rattle.std.proofs.Common.{◌≡◌}
use Rattle.batch_tests.proofs.ManySites.{AreSites}
use Rattle.batch_tests.proofs.chunks.open.Given as goal

abbrev pub invariant-loop-site : goal.invariant-loop-site
invariant-loop-site g l = record {
  room : l.changes.room ≡ 300;
  sites : AreSites l.site l.changes.list;
}
