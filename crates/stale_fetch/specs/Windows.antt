-- What a contract sees of a text that keeps two values of each byte for each processor.
use Rattle.std.specs.Prelude.{◌≡◌, ◌+◌, ◌-◌, ◌<◌, ◌≤◌, ℕ, true, List, [], Option, None, length, slice_index, slice_index_or, slice_set}
use Rattle.std.specs.List.{list_all}
use Rattle.insn_forms.specs.History.{text_memory, text_byte, byte}
use Rattle.stale_fetch.specs.declared.choice.Choice.{Choice}
use Rattle.stale_fetch.specs.Past.{Past, candidates}
use Rattle.stale_fetch.specs.Text.{Shape}
use Rattle.stale_fetch.specs.Text.Limit.{Windowed}
use Rattle.stale_fetch.specs.Choice.{listed, takes, chosen, widened}

-- for each place of the text the two values of an open window, in the order in which the byte had them
abbrev pub Row : Type 0
Row = List (Option (ℕ × ℕ))

-- the address at which it begins, the bytes that it holds, and the windows of each processor
pub record WindowState : Type 0 where
  pub base : ℕ
  pub held : List ℕ
  pub windows : List Row

-- the window at a place
abbrev pub window_at : Row → ℕ → Option (ℕ × ℕ)
window_at row place = slice_index_or row place None

-- the windows after a write of a byte at a place
abbrev pub widened_at : ℕ → ℕ → ℕ → Row → Row
widened_at place held byte row = slice_set row place (widened held byte (window_at row place))

-- what a processor may fetch at a place
abbrev pub choice_at : WindowState → ℕ → ℕ → Choice
choice_at text cpu place = chosen (slice_index text.held place) (window_at (slice_index_or text.windows cpu []) place)

abbrev pub window_shape : WindowState → Shape
window_shape text = record {
  base = text.base;
  size = length text.held;
  cpus = length text.windows;
  limit = Windowed;
}

abbrev pub window_held : WindowState → ℕ → Option ℕ
window_held text at = text_byte text.base text.held at

-- the byte that a text holds now
abbrev pub now : Past → ℕ → ℕ
now p at = byte (text_memory p.base p.text) p.writes (length p.writes) at

-- it stands for a past in which each byte has had at most two values for each processor
pub record IsWindowsOf (text : WindowState) (p : Past) : Type 0 where
  pub base : p.base ≡ text.base
  pub size : length p.text ≡ length text.held
  pub cpus : length p.marks ≡ length text.windows
  pub marks : (cpu : ℕ) → slice_index p.marks cpu ≤ length p.writes
  pub held : (place : ℕ) → place < length p.text → slice_index text.held place ≡ now p (p.base + place)
  pub choices : (cpu place : ℕ) → cpu < length p.marks → place < length p.text → listed (choice_at text cpu place) ≡ candidates p cpu (p.base + place)

-- a write gives no processor a third candidate
abbrev pub windows_take : WindowState → ℕ → ℕ → Type 0
windows_take text at byte =
    let place = at - text.base in
    list_all (λ (row : Row). takes (chosen (slice_index text.held place) (window_at row place)) byte) text.windows ≡ true
