use Rattle.std.proofs.Common.{◌≤◌, ◌+◌, vec_len}
use Rattle.std.specs.Io.KnownBytes.{Consumes}
use Rattle.real_host.proofs.streams.read_within.Given as goal

abbrev pub invariant-reads : goal.invariant-reads
invariant-reads g l = record {
  short : vec_len l.out ≤ l.limit + 1;
  lost : Consumes (g.F.Read.remaining l.initial.from) (g.F.Read.remaining l.from) l.out.items;
}
