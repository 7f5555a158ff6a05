-- The bytes of a site while its chunk is poked.
use Rattle.std.specs.Prelude.{◌≡◌, ◌⊎◌, ℕ, zero, suc, slice_index}
use Rattle.insn_forms.specs.declared.forms.Change.{Change}
use Rattle.poke_batch.specs.Poke.{spelled}

-- byte j of a changed site after this many of the three rounds of its chunk's poke: breakpoints, tails, first bytes
abbrev pub byte_after : ℕ → Change → ℕ → ℕ
byte_after zero c j = slice_index (spelled c.old c.at) j
byte_after (suc zero) c zero = 0xcc
byte_after (suc zero) c (suc j) = slice_index (spelled c.old c.at) (suc j)
byte_after (suc (suc zero)) c zero = 0xcc
byte_after (suc (suc zero)) c (suc j) = slice_index (spelled c.new c.at) (suc j)
byte_after (suc (suc (suc n))) c j = slice_index (spelled c.new c.at) j

-- the table, which is that of the byte machine: where this many of the three requests of the chunk were acknowledged, a byte of
-- the site is the one that stood there after as many rounds, or after one more
abbrev pub IsInTable : ℕ → Change → ℕ → ℕ → Type 0
IsInTable taken c j byte = (byte ≡ byte_after taken c j) ⊎ (byte ≡ byte_after (suc taken) c j)
