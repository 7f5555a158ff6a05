-- How long the spellings of numbers of 32 bits are.
use Rattle.std.proofs.Common.{◌<◌, ◌≤◌, ◌^◌, ℕ, zero, suc, map, length, codes, cond, ap, lit≤, arith}
use Rattle.std.proofs.Common.{ne_eqb}
use Rattle.std.specs.Int.Digits.{digits_of}
use Rattle.std.proofs.lemmas.Int.Digits.{length-digits_of-le}
use Rattle.std.proofs.lemmas.List.{length-map}
use Rattle.poke_base.specs.Number.{decimal}
use Rattle.poke_base.proofs.Numbers.{digit_byte, line_room}

-- a number of 32 bits has at most 10 decimal digits
pub length-decimal-short : (n : ℕ) → n < 2 ^ 32 → length (decimal n) ≤ 10
length-decimal-short zero small = lit≤ tt
length-decimal-short (suc m) small =
    let by_test = ap (λ test. length (cond test (codes "0") (map digit_byte (digits_of 10 (suc m))))) (ne_eqb (suc m) 0 (λ e. omega arith)) in
    let digits = length-digits_of-le 10 10 (suc m) (omega arith) (omega arith) in
    rw (by_test, length-map) digits

-- how long the line of an outcome is, for its functions to name
pub ruleset outcome_room = (line_room, length-decimal-short)
