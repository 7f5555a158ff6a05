use Rattle.std.proofs.Common.{◌≡◌, length}
use Rattle.poke_batch.specs.Clash.{held_bytes}
use Rattle.poke_batch.proofs.patch.held_bytes.Given as goal

abbrev pub invariant-loop-i : goal.invariant-loop-i
invariant-loop-i g l = record {
  bytes : l.bytes.items ≡ held_bytes (g.T.Held.held_byte l.text) l.at l.i;
  length : length l.bytes.items ≡ l.i;
}
