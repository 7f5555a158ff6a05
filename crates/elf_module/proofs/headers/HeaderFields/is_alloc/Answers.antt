use Rattle.std.proofs.Common.{◌≡◌, ◌<◌, ◌*◌, ◌/◌, ◌%◌, ◌==◌, ℕ, zero, suc, not, refl, arith}
use Rattle.std.proofs.lemmas.Nat.Bits.{and_pow}
use Rattle.elf_module.proofs.headers.HeaderFields.is_alloc.Goals as goal

-- the second bit, read by a mask, is set exactly where it is 1
bit_set : (bit masked : ℕ) → bit < 2 → masked ≡ bit * 2 → not (masked == 0) ≡ (bit == 1)
bit_set zero masked lt e = rw e refl
bit_set (suc zero) masked lt e = rw e refl
bit_set (suc (suc bit)) masked lt e = absurd (omega arith)

pub returns : goal.returns
returns c = bit_set (c.args.self.now.flags / 2 % 2) _ (omega arith) (and_pow c.args.self.now.flags 1)
