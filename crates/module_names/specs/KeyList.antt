-- Ascending lists of addresses, in which each stands once.
use Rattle.std.specs.Prelude.{ℕ, List}
use Rattle.std.specs.List.Sorted.{IsStrictlyIncreasing}

-- each address is above the one before it
abbrev pub IsRising : List ℕ → Type 0
IsRising keys = IsStrictlyIncreasing keys
