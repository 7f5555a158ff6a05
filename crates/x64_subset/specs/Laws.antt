-- Laws of the instructions' spellings, and of what they do.
use Rattle.std.specs.Prelude.{◌≡◌, ◌<◌, ◌≤◌, ◌↔◌, ◌⊎◌, ℕ, true, List, [], ◌++◌, length, Some, Ok, Err}
use Rattle.std.specs.List.{All}
use Rattle.poke_base.specs.Text.{IsPrefix}
use Rattle.insn_forms.specs.declared.forms.Form.{Form}
use Rattle.x64_subset.specs.declared.insn.Insn.{Insn}
use Rattle.x64_subset.specs.declared.insn.Undecoded.TheVariants.{Short, Unknown}
use Rattle.x64_subset.specs.declared.proc.Proc.{Proc}
use Rattle.x64_subset.specs.declared.proc.Mark.TheVariants.{Ended}
use Rattle.x64_subset.specs.Subset.{is_listed}
use Rattle.x64_subset.specs.Spells.{Spells, IsCut, IsUnknown}
use Rattle.x64_subset.specs.Reach.{IsOutOfReach, HasRoom}
use Rattle.x64_subset.specs.Reading.{read}
use Rattle.x64_subset.specs.Whole.{name, insn_of, name_len, whole}

-- a spelling that is how another begins is all of it, and of the same instruction
abbrev pub SpellingsAreApart : Type 0
SpellingsAreApart =
    (at : ℕ) (insn other : Insn) (code rest : List ℕ) → Spells insn at code → Spells other at (code ++ rest)
    → (rest ≡ []) × (insn ≡ other)

-- an instruction has at most one spelling at an address
abbrev pub SpellingsAreUnique : Type 0
SpellingsAreUnique =
    (at : ℕ) (insn : Insn) (code other : List ℕ) → Spells insn at code → Spells insn at other → code ≡ other

-- the name of a form is the spelling of the instruction that it is
abbrev pub FormsAreInstructions : Type 0
FormsAreInstructions =
    (at : ℕ) (form : Form) (code : List ℕ) → name form at ≡ Some code
    → Spells (insn_of form) at code × (length code ≡ name_len form)

-- each number is a byte
abbrev pub AllBytes : List ℕ → Type 0
AllBytes bytes = All (λ byte. byte < 256) bytes

-- an instruction is read exactly where the bytes begin with its spelling, and its length is that of the spelling
abbrev pub ReadingIsSpelling : Type 0
ReadingIsSpelling =
    (at : ℕ) (bytes : List ℕ) (insn : Insn) (len : ℕ) → AllBytes bytes
    → (read at bytes ≡ Ok (insn, len)) ↔ ((code : List ℕ) × IsPrefix code bytes × Spells insn at code × (len ≡ length code))

-- what is read is too short exactly where the bytes are how a longer spelling begins
abbrev pub ShortReadings : Type 0
ShortReadings = (at : ℕ) (bytes : List ℕ) → AllBytes bytes → (read at bytes ≡ Err Short) ↔ IsCut at bytes

-- what is read is unknown exactly where no spelling is how the bytes begin, and none begins so
abbrev pub UnknownReadings : Type 0
UnknownReadings = (at : ℕ) (bytes : List ℕ) → AllBytes bytes → (read at bytes ≡ Err Unknown) ↔ IsUnknown at bytes

-- what is read of any numbers, bytes or not, is of the subset, and has one to nine bytes, which are all there
abbrev pub WhatIsRead : Type 0
WhatIsRead =
    (at : ℕ) (bytes : List ℕ) (insn : Insn) (len : ℕ) → read at bytes ≡ Ok (insn, len)
    → (is_listed insn ≡ true) × (1 ≤ len) × (len ≤ 9) × (len ≤ length bytes)

-- what is spelt is of the subset
abbrev pub SpeltAreListed : Type 0
SpeltAreListed = (at : ℕ) (insn : Insn) (code : List ℕ) → Spells insn at code → is_listed insn ≡ true

-- an instruction of the subset is spelt at each address, or its target is out of reach
abbrev pub ListedAreSpelt : Type 0
ListedAreSpelt =
    (at : ℕ) (insn : Insn) → is_listed insn ≡ true → HasRoom insn
    → IsOutOfReach insn at ⊎ ((code : List ℕ) × Spells insn at code)

-- a processor that a form, done as a whole, ends stands where it stood
abbrev pub EndedStay : Type 0
EndedStay = (form : Form) (at : ℕ) (p : Proc) → (whole form at p).1 ≡ Ended → (whole form at p).0.ip ≡ p.ip
