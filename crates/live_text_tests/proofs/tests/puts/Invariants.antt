use Rattle.live_text.specs.Own.{IsOwn}
use Rattle.live_text_tests.proofs.tests.puts.Given as goal

abbrev pub invariant-loop : goal.invariant-loop
invariant-loop g l = IsOwn l.text l.seat
