-- What the bytes of the sites are after each of the plan's writes, and which of its writes stand before a request.
use Rattle.std.specs.Prelude.{◌≡◌, ◌≤◌, ◌<◌, ◌+◌, ◌-◌, ◌==◌, if◌then◌else◌, ℕ, zero, suc, List, length, map, slice_index_or}
use Rattle.insn_forms.specs.Write.{Write}
use Rattle.insn_forms.specs.History.{Memory, text_memory, byte}
use Rattle.live_text.specs.declared.view.Shape.{Shape}
use Rattle.live_text.specs.declared.view.PlacedWrite.{PlacedWrite}

-- the bytes at the start, as a text that begins at 0: a byte's number is its address
abbrev pub memory : Shape → Memory
memory p = text_memory 0 p.starts

-- the writes to that text
abbrev pub write_of : PlacedWrite → Write
write_of w = record { at = w.place; byte = w.byte }

abbrev pub history : Shape → List Write
history p = map write_of p.writes

-- a byte after the first k writes
unfoldable pub value : Shape → ℕ → ℕ → ℕ
value p k b = byte (memory p) (history p) k b

-- how many writes stand before request r; past the last request all of them
abbrev pub cut : Shape → ℕ → ℕ
cut p r = slice_index_or p.cuts r (length p.writes)

-- the number of the byte that write k writes
abbrev pub place_at : Shape → ℕ → ℕ
place_at p k = (slice_index_or p.writes k (record { place = 0; byte = 0 })).place

-- the first number of writes, from k on and at most n further, after which the byte has a value
abbrev pub seek : Shape → ℕ → ℕ → ℕ → ℕ → ℕ
seek p b v k zero = k
seek p b v k (suc n) = if value p k b == v then k else seek p b v (k + 1) n

-- the byte has a value after some number of writes, from `low` to `high` of them: this is the first such number
pub record Found (p : Shape) (low high b v : ℕ) : Type 0 where
  pub by : seek p b v low (high - low) ≤ high
  pub same : value p (seek p b v low (high - low)) b ≡ v

-- what a plan as numbers keeps
pub record IsShape (p : Shape) : Type 0 where
  -- each write is to a byte of the sites
  pub inside : (k : ℕ) → k < length p.writes → place_at p k < length p.starts
  -- requests stand in order among the writes
  pub ordered : (r q : ℕ) → r ≤ q → cut p r ≤ cut p q
  pub within : (r : ℕ) → cut p r ≤ length p.writes
  pub begins : cut p 0 ≡ 0
  -- bytes are bytes
  pub small : (k b : ℕ) → value p k b < 256
