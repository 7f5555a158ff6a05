-- A worked example: an update of 300 sites is poked in two chunks, the second after the first is done.
use Rattle.std.proofs.Common.{◌≡◌, ℕ, zero, suc, ◌+◌, List, [], ◌∷◌, length, Option, Some, None, refl}
use Rattle.std.specs.Prelude.{option_map}
use Rattle.insn_forms.specs.declared.forms.Change.{Change}
use Rattle.insn_forms.specs.declared.forms.Form.TheVariants.{Jmp32, Nop5}
use Rattle.insn_forms.specs.Spelling.{spell}
use Rattle.poke_batch.specs.declared.batch.Due.{Due}
use Rattle.poke_batch.specs.declared.batch.Due.TheVariants.{Idle, Request, Return, Wait, Write}
use Rattle.poke_batch.specs.Walk.{Walk, due_of, moved, opened, taken}

-- n sites of five bytes, one after the other, each a NOP that becomes a jump
abbrev pub row : ℕ → ℕ → List Change
row at zero = []
row at (suc n) = record { at = at; old = Nop5; new = Jmp32 0x402000 } ∷ row (at + 5) n

-- what is due is done: the write, the request, the taking by the one processor that there is, or the return
abbrev pub step : Due → Walk → Option Walk
step Idle walk = None
step (Write at byte) walk = moved walk
step Request walk = moved walk
step Wait walk = Some (taken 0 walk)
step Return walk = moved walk

abbrev pub step_of : Option Walk → Option Walk
step_of None = None
step_of (Some walk) = step (due_of (Some walk)) walk

-- the update after n such steps
abbrev pub stepped : ℕ → Option Walk → Option Walk
stepped zero walk = walk
stepped (suc n) walk = stepped n (step_of walk)

abbrev pub update : Option Walk
update = opened 1 (row 0x401000 300)

-- how many sites the open chunk has
abbrev pub sites : Option Walk → Option ℕ
sites walk = option_map (λ (w : Walk). length w.chunk) walk

-- the first chunk has 256 sites: 6 writes each, 3 requests and 3 takings
pub first_chunk : sites (stepped 1541 update) ≡ Some 256
unfolding spell
first_chunk = refl

pub last_of_first : due_of (stepped 1541 update) ≡ Wait
unfolding spell
last_of_first = refl

-- then the other 44 are open, and the breakpoint of the first of them is due
pub second_chunk : sites (stepped 1542 update) ≡ Some 44
unfolding spell
second_chunk = refl

pub first_of_second : due_of (stepped 1542 update) ≡ Write 0x401500 0xcc
unfolding spell
first_of_second = refl

-- and after them the update returns
pub returns : due_of (stepped 1812 update) ≡ Return
unfolding spell
returns = refl
