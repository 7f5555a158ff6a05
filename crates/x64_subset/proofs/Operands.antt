-- Registers, conditions, bytes: what their tests mean, and the byte that names two registers.
use Rattle.std.proofs.Common.{◌≡◌, ℕ, suc, zero, ◌-◌, ◌/◌, ◌%◌, ◌<◌, ◌≤◌, true, arith}
use Rattle.std.proofs.lemmas.Bool.Decides.{nat_tests}
use Rattle.x64_subset.specs.Subset.{is_register, is_condition}
use Rattle.x64_subset.specs.Spells.{mod_rm}

-- what the test of a register says
pub register_facts : (r : ℕ) → is_register r ≡ true → (r < 8) × (r ≡ 4 → ⊥)
register_facts r is = grind (arith, nat_tests)

-- what holds of each register
pub by_register : (P : ℕ → Type 0) → P 0 → P 1 → P 2 → P 3 → P 5 → P 6 → P 7 → (r : ℕ) → is_register r ≡ true → P r
by_register P a b c d e f g zero is = a
by_register P a b c d e f g (suc zero) is = b
by_register P a b c d e f g (suc (suc zero)) is = c
by_register P a b c d e f g (suc (suc (suc zero))) is = d
by_register P a b c d e f g (suc (suc (suc (suc zero)))) is = absurd (cc)
by_register P a b c d e f g (suc (suc (suc (suc (suc zero))))) is = e
by_register P a b c d e f g (suc (suc (suc (suc (suc (suc zero)))))) is = f
by_register P a b c d e f g (suc (suc (suc (suc (suc (suc (suc zero))))))) is = g
by_register P a b c d e f g (suc (suc (suc (suc (suc (suc (suc (suc r)))))))) is =
    let below : suc (suc (suc (suc (suc (suc (suc (suc r))))))) < 8 = (register_facts _ is).0 in absurd (omega arith)

-- what the test of a condition says
pub condition_facts : (c : ℕ) → is_condition c ≡ true → (c < 16) × (c ≡ 10 → ⊥) × (c ≡ 11 → ⊥)
condition_facts c is = grind (arith, nat_tests)

-- what holds of each condition
pub by_condition : (P : ℕ → Type 0) → P 0 → P 1 → P 2 → P 3 → P 4 → P 5 → P 6 → P 7 → P 8 → P 9 → P 12 → P 13 → P 14 → P 15 → (c : ℕ) → is_condition c ≡ true → P c
by_condition P a b c d e f g h i j k l m n zero is = a
by_condition P a b c d e f g h i j k l m n (suc zero) is = b
by_condition P a b c d e f g h i j k l m n (suc (suc zero)) is = c
by_condition P a b c d e f g h i j k l m n (suc (suc (suc zero))) is = d
by_condition P a b c d e f g h i j k l m n (suc (suc (suc (suc zero)))) is = e
by_condition P a b c d e f g h i j k l m n (suc (suc (suc (suc (suc zero))))) is = f
by_condition P a b c d e f g h i j k l m n (suc (suc (suc (suc (suc (suc zero)))))) is = g
by_condition P a b c d e f g h i j k l m n (suc (suc (suc (suc (suc (suc (suc zero))))))) is = h
by_condition P a b c d e f g h i j k l m n (suc (suc (suc (suc (suc (suc (suc (suc zero)))))))) is = i
by_condition P a b c d e f g h i j k l m n (suc (suc (suc (suc (suc (suc (suc (suc (suc zero))))))))) is = j
by_condition P a b c d e f g h i j k l m n (suc (suc (suc (suc (suc (suc (suc (suc (suc (suc zero)))))))))) is = absurd (cc)
by_condition P a b c d e f g h i j k l m n (suc (suc (suc (suc (suc (suc (suc (suc (suc (suc (suc zero))))))))))) is = absurd (cc)
by_condition P a b c d e f g h i j k l m n (suc (suc (suc (suc (suc (suc (suc (suc (suc (suc (suc (suc zero)))))))))))) is = k
by_condition P a b c d e f g h i j k l m n (suc (suc (suc (suc (suc (suc (suc (suc (suc (suc (suc (suc (suc zero))))))))))))) is = l
by_condition P a b c d e f g h i j k l m n (suc (suc (suc (suc (suc (suc (suc (suc (suc (suc (suc (suc (suc (suc zero)))))))))))))) is = m
by_condition P a b c d e f g h i j k l m n (suc (suc (suc (suc (suc (suc (suc (suc (suc (suc (suc (suc (suc (suc (suc zero))))))))))))))) is = n
by_condition P a b c d e f g h i j k l m n (suc (suc (suc (suc (suc (suc (suc (suc (suc (suc (suc (suc (suc (suc (suc (suc x)))))))))))))))) is =
    let below : suc (suc (suc (suc (suc (suc (suc (suc (suc (suc (suc (suc (suc (suc (suc (suc x))))))))))))))) < 16 = (condition_facts _ is).0 in absurd (omega arith)

-- the test that a byte names two registers, and what it says
pub mod_rm_is : (b : ℕ) → b < 256 → 0xc0 ≤ b → ((b - 0xc0) / 8 < 8) × (b ≡ mod_rm ((b - 0xc0) / 8) (b % 8))
mod_rm_is b byte from = (omega arith, omega arith)

-- the register's place of the byte that names two registers
pub mod_rm-reg : (reg rm : ℕ) → rm < 8 → (mod_rm reg rm - 0xc0) / 8 ≡ reg
mod_rm-reg reg rm below = omega arith

-- the other place
pub mod_rm-rm : (reg rm : ℕ) → rm < 8 → mod_rm reg rm % 8 ≡ rm
mod_rm-rm reg rm below = omega arith
