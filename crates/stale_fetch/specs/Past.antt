-- What a text stands for: what its bytes were, and since when each processor fetches.
use Rattle.std.specs.Prelude.{◌+◌, ◌<◌, ◌≤◌, nat_lt, if◌then◌else◌, ℕ, List, [], ◌∷◌, ◌++◌, Option, Some, None, length, replicate, slice_index, slice_set}
use Rattle.insn_forms.specs.Write.{Write}
use Rattle.insn_forms.specs.History.{text_memory, byte, since}

-- the bytes of a text at the start, all writes to it, in order, and for each processor how many of them had been made
-- when it last serialised
pub record Past : Type 0 where
  pub base : ℕ
  pub text : List ℕ
  pub writes : List Write
  pub marks : List ℕ

-- a text to which nothing was written, for this many processors
abbrev pub new_past : ℕ → List ℕ → ℕ → Past
new_past base text cpus = record { base = base; text = text; writes = []; marks = replicate cpus 0 }

-- after one more write of a byte at an address
abbrev pub with_write : Past → ℕ → ℕ → Past
with_write p at byte = record p { writes = p.writes ++ (record { at = at; byte = byte }) ∷ [] }

-- after a processor has serialised
abbrev pub with_serialised : Past → ℕ → Past
with_serialised p cpu = record p { marks = slice_set p.marks cpu (length p.writes) }

-- an address inside of the text
abbrev pub IsInside : Past → ℕ → Type 0
IsInside p at = (p.base ≤ at) × (at < p.base + length p.text)

-- the values that a processor may fetch at an address: those that the byte has had since it last serialised
abbrev pub candidates : Past → ℕ → ℕ → List ℕ
candidates p cpu at = since (text_memory p.base p.text) p.writes (slice_index p.marks cpu) at

-- the byte that the text holds now at an address, none outside of it
abbrev pub held_in : Past → ℕ → Option ℕ
held_in p at =
    if nat_lt at p.base
    then None
    else (if nat_lt at (p.base + length p.text)
    then Some (byte (text_memory p.base p.text) p.writes (length p.writes) at)
    else None)
