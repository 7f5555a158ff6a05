-- How the values of a byte are gathered from the writes to it.
use Rattle.std.specs.Prelude.{◌==◌, if◌then◌else◌, ℕ, Bool, List, [], ◌∷◌, ◌++◌}
use Rattle.std.specs.List.{list_any}
use Rattle.insn_forms.specs.Write.{Write}

-- whether a value is in a list
abbrev pub has : List ℕ → ℕ → Bool
has values value = list_any (λ other. other == value) values

-- a list with a value added at its end, unless it is there
abbrev pub added : List ℕ → ℕ → List ℕ
added values value = if has values value then values else values ++ value ∷ []

-- a list with some values added, in order
abbrev pub gathered : List ℕ → List ℕ → List ℕ
gathered found [] = found
gathered found (value ∷ values) = gathered (added found value) values

-- the byte at an address, which was `value`, after some writes
abbrev pub byte_after : ℕ → List Write → ℕ → ℕ
byte_after value [] at = value
byte_after value (w ∷ writes) at = byte_after (if w.at == at then w.byte else value) writes at

-- the bytes that are written at an address, in order
abbrev pub bytes_at : List Write → ℕ → List ℕ
bytes_at [] at = []
bytes_at (w ∷ writes) at = if w.at == at then w.byte ∷ bytes_at writes at else bytes_at writes at
