use Rattle.std.proofs.Common.{◌≡◌, drop}
use Rattle.poke_base.proofs.Numbers.{read_on}
use Rattle.poke_base.proofs.number.read_digits.Given as goal

abbrev pub invariant-loop-byte : goal.invariant-loop-byte
invariant-loop-byte l = read_on l.base l.value (drop l.byte-index l.word) ≡ read_on l.base 0 l.word
