-- A field that leads to an address is read as that address.
use Rattle.std.proofs.Common.{◌≡◌, ◌<◌, ◌≤◌, ◌+◌, ◌-◌, ◌/◌, ◌%◌, ◌^◌, ◌∙◌, ℕ, Bool, true, false, List, ◌++◌, drop, refl, ap, arith, inl, inr}
use Rattle.std.specs.Prelude.{if◌then◌else◌, nat_eq}
use Rattle.std.proofs.lemmas.Bool.{cases_lt, lt-ltb, le-ltb, eq-eqb, ne_eqb}
use Rattle.std.proofs.Math.Nat.{div-one}
use Rattle.byteorder.specs.Endian.{little_bytes}
use Rattle.byteorder.specs.Numbers.{little_from-bytes}
use Rattle.elf_module.specs.Elf.{field}
use Rattle.site_tables.specs.Entry.{extended, relative, cleared}
use Rattle.elf_build.specs.File.{flag}

-- a signed field of 4 bytes leads to an address near to it
pub near-round : (at target : ℕ) → at < 2 ^ 64 → target < 2 ^ 64 → target < at + 2 ^ 31 → at < target + 2 ^ 31
    → relative at (extended ((target + 2 ^ 64 - at) % 2 ^ 32)) ≡ target
near-round at target low below near far = elim (cases_lt target at) [
  | inl back ↦
      (
      let n : (target + 2 ^ 64 - at) % 2 ^ 32 ≡ target + 2 ^ 32 - at = omega arith in
      ap (λ (m : ℕ). relative at (extended m)) n
      ∙ ap (λ (b : Bool). relative at (if b then target + 2 ^ 32 - at else target + 2 ^ 32 - at + (2 ^ 64 - 2 ^ 32))) (le-ltb (target + 2 ^ 32 - at) (2 ^ 31) (omega arith))
      ∙ omega arith
      )
  | inr on ↦
      (
      let n : (target + 2 ^ 64 - at) % 2 ^ 32 ≡ target - at = omega arith in
      ap (λ (m : ℕ). relative at (extended m)) n
      ∙ ap (λ (b : Bool). relative at (if b then target - at else target - at + (2 ^ 64 - 2 ^ 32))) (lt-ltb (target - at) (2 ^ 31) (omega arith))
      ∙ omega arith
      )
]

-- without its low bits a number with a flag is the number
pub flag-low : (n : ℕ) (set : Bool) → n % 4 ≡ 0 → cleared (n + flag set) ≡ n
flag-low n true whole = omega arith
flag-low n false whole = omega arith

-- its first bit is the flag
pub flag-first : (n : ℕ) (set : Bool) → n % 4 ≡ 0 → nat_eq ((n + flag set) % 2) 1 ≡ set
flag-first n true whole = eq-eqb ((n + 1) % 2) 1 (omega arith)
flag-first n false whole = ne_eqb ((n + 0) % 2) 1 (λ e. omega arith)

-- its second bit is not set
pub flag-second : (n : ℕ) (set : Bool) → n % 4 ≡ 0 → nat_eq ((n + flag set) / 2 % 2) 1 ≡ false
flag-second n true whole = ne_eqb ((n + 1) / 2 % 2) 1 (λ e. omega arith)
flag-second n false whole = ne_eqb ((n + 0) / 2 % 2) 1 (λ e. omega arith)

-- a flag adds at most one
pub flag-below : (n : ℕ) (set : Bool) {most : ℕ} → n + 1 < most → n + flag set < most
flag-below n true below = below
flag-below n false below = omega arith

-- a field of 8 bytes that leads on to an address with a flag
pub on-round : (at target : ℕ) (set : Bool) → at ≤ target → target + 1 < 2 ^ 64
    → (target + flag set + 2 ^ 64 - at) % 2 ^ 64 ≡ target - at + flag set
on-round at target true on below = omega arith
on-round at target false on below = omega arith

-- the prefix of a number's bytes is what it is modulo a power of 256
pub low-part : (n x : ℕ) (rest : List ℕ) → field n 0 (little_bytes n x ++ rest) ≡ x % 256 ^ n
unfolding field
low-part n x rest = little_from-bytes n 0 x rest ∙ ap (λ (y : ℕ). y % 256 ^ n) (div-one x)

-- the same in a list of two numbers, and of three
module _ (x y : ℕ) (rest : List ℕ) where
  -- the first of two numbers of 4 bytes
  pub first-of_two : field 4 0 ((little_bytes 4 x ++ little_bytes 4 y) ++ rest) ≡ x % 2 ^ 32
  unfolding field
  first-of_two = low-part 4 x (little_bytes 4 y ++ rest)

  -- the second of them
  pub second-of_two : field 4 4 ((little_bytes 4 x ++ little_bytes 4 y) ++ rest) ≡ y % 2 ^ 32
  unfolding field
  second-of_two = low-part 4 y rest

module _ (x y z : ℕ) (rest : List ℕ) where
  -- the first of two numbers of 4 bytes and one of 8
  pub first-of_three : field 4 0 (((little_bytes 4 x ++ little_bytes 4 y) ++ little_bytes 8 z) ++ rest) ≡ x % 2 ^ 32
  unfolding field
  first-of_three = low-part 4 x (little_bytes 4 y ++ (little_bytes 8 z ++ rest))

  -- the second of them
  pub second-of_three : field 4 4 (((little_bytes 4 x ++ little_bytes 4 y) ++ little_bytes 8 z) ++ rest) ≡ y % 2 ^ 32
  unfolding field
  second-of_three = low-part 4 y (little_bytes 8 z ++ rest)

  -- the third of them
  pub third-of_three : field 8 8 (((little_bytes 4 x ++ little_bytes 4 y) ++ little_bytes 8 z) ++ rest) ≡ z % 2 ^ 64
  unfolding field
  third-of_three = low-part 8 z rest

-- a field is the first of what stands from it on
pub field-here : (n at : ℕ) (bytes : List ℕ) → field n at bytes ≡ field n 0 (drop at bytes)
unfolding field
field-here n at bytes = refl
