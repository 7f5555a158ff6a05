-- The number of a processor, of at most 16, has at most two digits.
use Rattle.std.proofs.Common.{ℕ, ◌/◌, ◌≤◌, inl, inr, length, ap, arith}
use Rattle.std.proofs.lemmas.Bool.{cases_lt}
use Rattle.poke_base.specs.Number.{decimal}
use Rattle.poke_base.proofs.Numbers.{spelling-digit, length-spelling-more}

pub length-decimal_cpu : (cpu : ℕ) → cpu ≤ 15 → length (decimal cpu) ≤ 2
length-decimal_cpu cpu few =
    elim (cases_lt cpu 10) [
      | inl one ↦ let e = ap length (spelling-digit 10 cpu (omega arith) one) in omega arith
      | inr two ↦
          let e = length-spelling-more 10 cpu (omega arith) two in
          let d = ap length (spelling-digit 10 (cpu / 10) (omega arith) (omega arith)) in
          omega arith
    ]
