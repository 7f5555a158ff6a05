use Rattle.std.proofs.Common.{◌≡◌}
use Rattle.live_text.proofs.CpuKeeps.{nothing}
use Rattle.live_text.proofs.text.no_bytes.Given as goal

abbrev pub invariant-loop : goal.invariant-loop
invariant-loop l = l.made.items ≡ nothing l.counter
