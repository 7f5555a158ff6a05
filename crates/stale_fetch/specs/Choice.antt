-- One or two values of a byte, and what a write makes of them.
use Rattle.std.specs.Prelude.{◌==◌, ◌||◌, if◌then◌else◌, ℕ, Bool, true, List, [], ◌∷◌, Option, Some, None}
use Rattle.stale_fetch.specs.declared.choice.Choice.{Choice}
use Rattle.stale_fetch.specs.declared.choice.Choice.TheVariants.{One, Two}

-- the values, in order
abbrev pub listed : Choice → List ℕ
listed (One byte) = byte ∷ []
listed (Two first second) = first ∷ second ∷ []

-- a write of this byte makes no third value
abbrev pub takes : Choice → ℕ → Bool
takes (One value) byte = true
takes (Two first second) byte = (first == byte) || (second == byte)

-- what a processor may fetch where the text holds a byte: that byte, or either value of an open window
abbrev pub chosen : ℕ → Option (ℕ × ℕ) → Choice
chosen held None = One held
chosen held (Some window) = Two window.0 window.1

-- the window after a write of a byte where another was held
abbrev pub widened : ℕ → ℕ → Option (ℕ × ℕ) → Option (ℕ × ℕ)
widened held byte None = if held == byte then None else Some (held, byte)
widened held byte (Some window) = Some window
