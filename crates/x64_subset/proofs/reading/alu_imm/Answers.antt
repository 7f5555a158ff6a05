-- The digit decides.
use Rattle.std.proofs.Common.{◌∙◌, sym, ℕ}
use Rattle.x64_subset.specs.Reading.{by_digit}
use Rattle.x64_subset.proofs.Opcodes.{where_is}
use Rattle.x64_subset.proofs.reading.alu_imm.Goals as goal

pub returns-in-0 : goal.returns-in-0
returns-in-0 c =
    where_is (λ (d : ℕ). by_digit d c.in_ok-digit.rm) _ 0 _ _ c.in-0.is c.with_byte.ensures
    ∙ sym (c.in_ok-digit.ensures by_digit)

pub returns-in-5 : goal.returns-in-5
returns-in-5 c =
    where_is (λ (d : ℕ). by_digit d c.in_ok-digit.rm) _ 5 _ _ c.in-5.is c.with_byte-in-5.ensures
    ∙ sym (c.in_ok-digit.ensures by_digit)

pub returns-in-7 : goal.returns-in-7
returns-in-7 c =
    where_is (λ (d : ℕ). by_digit d c.in_ok-digit.rm) _ 7 _ _ c.in-7.is c.with_byte-in-7.ensures
    ∙ sym (c.in_ok-digit.ensures by_digit)
