use Rattle.std.proofs.Common.{◌≡◌, ◌++◌, List, ℕ}
use Rattle.std.specs.Io.KnownBytes.{Appends}
use Rattle.real_host.proofs.streams.write_piece.Given as goal

abbrev pub invariant-writes : goal.invariant-writes
invariant-writes g l =
    (done : List ℕ) × (done ++ l.rest ≡ l.piece) × Appends (g.W.Write.contents l.initial.to) (g.W.Write.contents l.to) done
