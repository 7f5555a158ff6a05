-- What the fields of a text that keeps two values of each byte stand for.
use Rattle.std.specs.Prelude.{◌==◌, ◌≤◌, if◌then◌else◌, ℕ, Option, Some, None, map, All}
use Rattle.stale_fetch.specs.declared.row.Window.{Window}
use Rattle.stale_fetch.specs.declared.row.Windows.TheInside.{Inside}
use Rattle.stale_fetch.specs.Windows.{Row}

-- a window that was opened since the processor last serialised is open
abbrev pub window_in : ℕ → Window → Option (ℕ × ℕ)
window_in epoch w = if w.epoch == epoch then Some (w.first, w.second) else None

abbrev pub row_of : Inside → Row
row_of i = map (window_in i.epoch) i.windows.items

-- no window is of an epoch to come
abbrev pub IsTimely : Inside → Type 0
IsTimely i = All (λ (w : Window). w.epoch ≤ i.epoch) i.windows.items
