use Rattle.std.proofs.Common.{◌≡◌, ◌∷◌, [], map, drop}
use Rattle.stale_fetch.specs.ByteSet.{IsByteSet}
use Rattle.stale_fetch.specs.Gathered.{gathered, bytes_at}
use Rattle.stale_fetch.specs.LogInside.{write_of}
use Rattle.stale_fetch.proofs.log.gathered.Given as goal

abbrev pub invariant-loop-write : goal.invariant-loop-write
invariant-loop-write l = record {
  values : gathered l.values.items (bytes_at (map write_of (drop l.write-index l.writes)) l.at) ≡ gathered (l.first ∷ []) (bytes_at (map write_of l.writes) l.at);
  each_once : IsByteSet l.values.items;
}
