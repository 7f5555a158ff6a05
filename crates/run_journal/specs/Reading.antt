-- Reading a journal: its first line, and then a line for each event.
use Rattle.std.specs.Prelude.{◌≡◌, ℕ, ◌+◌, ◌==◌, if◌then◌else◌, List, [], ◌++◌, length, take}
use Rattle.std.specs.Str.{bytes_eq}
use Rattle.run_journal.specs.declared.event.Event.{Event}
use Rattle.run_journal.specs.declared.reader.BadLine.{BadLine}
use Rattle.run_journal.specs.Spelling.{event_line, header}
use Rattle.run_journal.specs.Laws.{HasLine}
use Rattle.run_journal.specs.ReaderState.{ReaderState}

-- a reader at the beginning of a text
abbrev pub at_start : List ℕ → ReaderState
at_start text = record { rest = text; taken = 0 }

-- these are the lines of events that are still to be read: what stands after the header, where it wasn't taken
abbrev pub HasLines : ReaderState → List ℕ → Type 0
HasLines r lines = r.rest ≡ (if r.taken == 0 then header ++ lines else lines)

-- the line of an event is taken, and the header before it, where it wasn't
pub record ReadsEvent (old new : ReaderState) (e : Event) : Type 0 where
  pub has_line : HasLine e
  pub lines : HasLines old (event_line e ++ new.rest)
  pub taken : new.taken ≡ (if old.taken == 0 then 2 else old.taken + 1)

-- no line of an event is left; the header is taken, where it wasn't
pub record ReadsEnd (old new : ReaderState) : Type 0 where
  pub lines : HasLines old []
  pub nothing : new.rest ≡ []
  pub taken : new.taken ≡ (if old.taken == 0 then 1 else old.taken)

-- the lines of events that are still to be read, and how many lines are before them
pub record IsPast (r : ReaderState) (text : List ℕ) (count : ℕ) : Type 0 where
  pub lines : HasLines r text
  pub before : count ≡ (if r.taken == 0 then 1 else r.taken)

-- the number of the line that is read next: that of the header where it isn't there, and else that of an event's line
abbrev pub bad_line : ReaderState → ℕ
bad_line r =
    if r.taken == 0 then (if bytes_eq (take (length header) r.rest) header then 2 else 1)
    else r.taken + 1

-- what is left neither is at its end nor begins with the line of an event; where the header wasn't taken, it is missing,
-- or this is so after it
pub record IsBad (old : ReaderState) (why : BadLine) : Type 0 where
  pub not_end : HasLines old [] → ⊥
  pub no_event : (e : Event) (more : List ℕ) → HasLine e → HasLines old (event_line e ++ more) → ⊥
  pub line : why.line ≡ bad_line old
