-- What a contract sees of a text that keeps all writes.
use Rattle.std.specs.Prelude.{◌≡◌, ◌≤◌, ◌<◌, ℕ, length, slice_index}
use Rattle.stale_fetch.specs.Past.{Past}
use Rattle.stale_fetch.specs.Text.{Shape}
use Rattle.stale_fetch.specs.Text.Limit.{Counted}

-- what it stands for, and how many writes it takes in all
pub record LogState : Type 0 where
  pub past : Past
  pub room : ℕ

abbrev pub log_shape : LogState → Shape
log_shape log = record {
  base = log.past.base;
  size = length log.past.text;
  cpus = length log.past.marks;
  limit = Counted log.room;
}

-- it stands for this past, in which no mark is a write to come
pub record IsLogOf (log : LogState) (p : Past) : Type 0 where
  pub is : log.past ≡ p
  pub marks : (cpu : ℕ) → slice_index p.marks cpu ≤ length p.writes

-- there is room for one more write
abbrev pub log_has_room : LogState → ℕ → ℕ → Type 0
log_has_room log at byte = length log.past.writes < log.room
