-- The poke of a small update, and the chunks of a large one.
use Rattle.std.proofs.Common.{◌≡◌, ◌+◌, ℕ, zero, suc, List, [], ◌∷◌, length, map, refl}
use Rattle.insn_forms.specs.declared.forms.Change.{Change}
use Rattle.insn_forms.specs.declared.forms.Form.TheVariants.{Jmp32, Nop5}
use Rattle.insn_forms.specs.Spelling.{spell}
use Rattle.poke_batch.specs.Poke.{Item, chunks, items}
use Rattle.poke_batch.specs.Poke.Item.{Puts, Syncs}

-- the write of a byte at an address
abbrev put : ℕ → ℕ → Item
put at byte = Puts (record { at = at; byte = byte })

-- a no-operation that becomes a jump
pub items-jump : items (record { at = 0x401000; old = Nop5; new = Jmp32 0x402000 } ∷ []) ≡ put 0x401000 0xcc ∷ Syncs ∷ put 0x401001 0xfb ∷ put 0x401002 0x0f ∷ put 0x401003 0x00 ∷ put 0x401004 0x00 ∷ Syncs ∷ put 0x401000 0xe9 ∷ Syncs ∷ []
unfolding spell
items-jump = refl

-- n sites of five bytes, one after the other
abbrev pub row : ℕ → ℕ → List Change
row at zero = []
row at (suc n) = record { at = at; old = Nop5; new = Jmp32 0x402000 } ∷ row (at + 5) n

-- 300 changes are poked in two chunks
pub length-chunks : map length (chunks (row 0x401000 300)) ≡ 256 ∷ 44 ∷ []
length-chunks = refl
