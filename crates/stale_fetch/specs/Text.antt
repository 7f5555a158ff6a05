-- What every call of a text keeps, and how that agrees with what the text stands for.
use Rattle.std.specs.Prelude.{◌≡◌, ◌+◌, ◌<◌, ◌≤◌, ℕ, Option, length, slice_index}
use Rattle.stale_fetch.specs.Past.{Past, candidates, with_write, held_in}

-- which writes a text takes: so many in all, or those that give no processor a third candidate
pub data Limit : Type 0 where
  Counted : ℕ → Limit
  Windowed : Limit

-- the address at which a text begins, how many bytes it has, how many processors fetch from it, and which writes it takes
pub record Shape : Type 0 where
  pub base : ℕ
  pub size : ℕ
  pub cpus : ℕ
  pub limit : Limit

-- an address inside of a text of this shape
pub record Covers (shape : Shape) (at : ℕ) : Type 0 where
  pub from : shape.base ≤ at
  pub below : at < shape.base + shape.size

-- there is room for a write of a byte at an address
abbrev pub HasRoom : Limit → Past → ℕ → ℕ → Type 0
HasRoom (Counted room) p at byte = length p.writes < room
HasRoom Windowed p at byte =
    (cpu : ℕ) → cpu < length p.marks → length (candidates (with_write p at byte) cpu at) ≤ 2

-- a text of this shape that holds these bytes agrees with what it stands for
pub record Agrees (shape : Shape) (held : ℕ → Option ℕ) (p : Past) : Type 0 where
  pub base : p.base ≡ shape.base
  pub size : length p.text ≡ shape.size
  pub cpus : length p.marks ≡ shape.cpus
  -- the mark of a processor is no write to come
  pub marks : (cpu : ℕ) → slice_index p.marks cpu ≤ length p.writes
  -- it holds the byte after all writes
  pub bytes : (at : ℕ) → held at ≡ held_in p at
