use Rattle.std.proofs.Common.{◌≡◌, map, drop}
use Rattle.stale_fetch.specs.Gathered.{byte_after}
use Rattle.stale_fetch.specs.LogInside.{write_of}
use Rattle.stale_fetch.proofs.log.byte_after.Given as goal

abbrev pub invariant-loop-write : goal.invariant-loop-write
invariant-loop-write l =
    byte_after l.byte (map write_of (drop l.write-index l.writes)) l.at ≡ byte_after l.start (map write_of l.writes) l.at
