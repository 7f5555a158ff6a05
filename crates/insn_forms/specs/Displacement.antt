-- Where a relative displacement leads (Intel SDM volume 2, JMP, CALL and Jcc: "rel8" and "rel32").
use Rattle.std.specs.Prelude.{◌≡◌, ◌<◌, ℕ, ◌+◌, ◌-◌, ◌*◌, ◌%◌, ◌^◌, ◌==◌, nat_lt, if◌then◌else◌, List, length, Option, Some, None}
use Rattle.std.specs.Int.{Width, byte_len, to_le_bytes, from_le_bytes}
use Rattle.std.specs.List.{All}

-- a number of this width, read as two's complement, in 64 bits
abbrev pub sign_extended : Width → ℕ → ℕ
sign_extended w n = if nat_lt n (2 ^ (8 * byte_len w - 1)) then n else n + (2 ^ 64 - 2 ^ (8 * byte_len w))

-- the address to which a displacement leads from the end of its instruction: its bytes, the lowest
-- first, are a signed number, and addresses wrap modulo 2 ^ 64
abbrev pub leads : Width → ℕ → List ℕ → ℕ
leads w from bytes = (from + sign_extended w (from_le_bytes w bytes)) % 2 ^ 64

-- how far it is forward from one address to another
abbrev pub distance : ℕ → ℕ → ℕ
distance from to = (to + (2 ^ 64 - from)) % 2 ^ 64

-- the bytes of the displacement that leads from one address to another, where one of this width does
abbrev pub displacement : Width → ℕ → ℕ → Option (List ℕ)
displacement w from to =
    let bytes = to_le_bytes w (distance from to) in if leads w from bytes == to then Some bytes else None

-- these are the bytes of a displacement of this width, and it leads from one address to the other
pub record LeadsTo (w : Width) (from to : ℕ) (rel : List ℕ) : Type 0 where
  pub target : leads w from rel ≡ to
  pub size : length rel ≡ byte_len w
  pub bytes : All (λ byte. byte < 256) rel

-- no displacement of this width leads from one address to the other
abbrev pub NoneLeads : Width → ℕ → ℕ → Type 0
NoneLeads w from to = (rel : List ℕ) → LeadsTo w from to rel → ⊥
