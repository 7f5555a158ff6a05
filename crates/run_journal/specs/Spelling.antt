-- How the events of a run are spelt in its journal: a line each, which begins with the event's letter.
use Rattle.std.specs.Prelude.{ℕ, List, [], ◌∷◌, ◌++◌, codes, Option, Some, None}
use Rattle.std.specs.List.{flat_map}
use Rattle.hex.specs.Hex.{encode_lower}
use Rattle.poke_base.specs.Number.{decimal}
use Rattle.run_journal.specs.declared.event.Event.{Event}
use Rattle.run_journal.specs.declared.event.Event.TheVariants.{Begin, Write, Request, Take, Return, Plain, At, Handle, Tick}

-- the letters: b, w, s, t, r, p, a, h, i
abbrev pub letter : Event → ℕ
letter Begin = 98
letter Write = 119
letter Request = 115
letter (Take cpu) = 116
letter Return = 114
letter (Plain cpu) = 112
letter (At cpu bytes) = 97
letter (Handle cpu) = 104
letter (Tick cpu) = 105

-- the number of the processor that an event is of
abbrev pub cpu_of : Event → Option ℕ
cpu_of Begin = None
cpu_of Write = None
cpu_of Request = None
cpu_of (Take cpu) = Some cpu
cpu_of Return = None
cpu_of (Plain cpu) = Some cpu
cpu_of (At cpu bytes) = Some cpu
cpu_of (Handle cpu) = Some cpu
cpu_of (Tick cpu) = Some cpu

-- the bytes that are fetched in an event
abbrev pub bytes_of : Event → Option (List ℕ)
bytes_of Begin = None
bytes_of Write = None
bytes_of Request = None
bytes_of (Take cpu) = None
bytes_of Return = None
bytes_of (Plain cpu) = None
bytes_of (At cpu bytes) = Some bytes.items
bytes_of (Handle cpu) = None
bytes_of (Tick cpu) = None

-- the number in decimal and the bytes in hexadecimal, in lower case, each after a space
abbrev pub cpu_word : Option ℕ → List ℕ
cpu_word None = []
cpu_word (Some cpu) = codes " " ++ decimal cpu

abbrev pub bytes_word : Option (List ℕ) → List ℕ
bytes_word None = []
bytes_word (Some bytes) = codes " " ++ encode_lower bytes

-- the letter and the words, ended by a line feed
abbrev pub event_line : Event → List ℕ
event_line e = letter e ∷ (cpu_word (cpu_of e) ++ bytes_word (bytes_of e) ++ 10 ∷ [])

-- a journal: its first line, and the lines of the events, in order
abbrev pub header : List ℕ
header = codes "journal 1" ++ 10 ∷ []

abbrev pub journal : List Event → List ℕ
journal events = header ++ flat_map event_line events
