use Rattle.std.proofs.Common.{◌≡◌}
use Rattle.live_text.specs.Steps.{zeros}
use Rattle.live_text.proofs.text.zeros.Given as goal

abbrev pub invariant-loop : goal.invariant-loop
invariant-loop l = l.made.items ≡ zeros l.counter
