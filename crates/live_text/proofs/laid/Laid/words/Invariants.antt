use Rattle.std.proofs.Common.{◌≡◌, ◌++◌, take}
use Rattle.live_text.specs.Steps.{zeros}
use Rattle.live_text.proofs.laid.Laid.words.Given as goal

-- the bytes so far
abbrev pub invariant-loop-byte : goal.invariant-loop-byte
invariant-loop-byte l = l.words.items ≡ take l.byte-index l.self.starts.items

-- then as many zeros
abbrev pub invariant-loop : goal.invariant-loop
invariant-loop l = l.words.items ≡ l.self.starts.items ++ zeros l.counter
