-- What the fields of a text that keeps two values of each byte stand for.
use Rattle.std.specs.Prelude.{◌≡◌, ◌+◌, ◌<◌, ◌^◌, length, All}
use Rattle.stale_fetch.specs.declared.window.WindowText.TheInside.{Inside}
use Rattle.stale_fetch.specs.Windows.{Row, WindowState}

abbrev pub windows_of : Inside → WindowState
windows_of i = record { base = i.base; held = i.held.items; windows = i.rows.items }

pub record IsWhole (i : Inside) : Type 0 where
  -- the text ends within the addresses
  pub ends : i.base + length i.held.items < 2 ^ 64
  -- each processor has a window for each byte
  pub rows : All (λ (row : Row). length row ≡ length i.held.items) i.rows.items
