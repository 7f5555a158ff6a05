-- A journal file as it is read.
use Rattle.std.specs.Prelude.{◌≡◌, ◌≤◌, ◌<◌, ℕ, List, length, Vec}
use Rattle.std.specs.declared.alloc.Global.{Global}
use Rattle.poke_faults.specs.declared.fault.Refusal.{Refusal}
use Rattle.poke_faults.specs.declared.fault.Refusal.TheVariants.{Journal}
use Rattle.poke_faults.specs.declared.journal_fault.JournalRefused.TheVariants.{TooLong}

-- how many bytes a journal file may have
abbrev pub journal_limit : ℕ
journal_limit = 268435456

-- its bytes were read
abbrev pub AcceptsJournal : List ℕ → Vec ℕ Global → Type 0
AcceptsJournal bytes read = (read.items ≡ bytes) × (length bytes ≤ journal_limit)

-- it is too long, as the refusal of a command
abbrev pub RefusesAsJournal : List ℕ → Refusal → Type 0
RefusesAsJournal bytes why = (why ≡ Journal TooLong) × (journal_limit < length bytes)
