-- Whole journals: what a reader finds in a text, call by call, and what spelling makes of events.
use Rattle.std.specs.Prelude.{◌≡◌, ◌↔◌, ℕ, ◌+◌, ◌==◌, if◌then◌else◌, List, [], ◌∷◌, ◌++◌, length}
use Rattle.std.specs.List.{All, flat_map}
use Rattle.run_journal.specs.declared.event.Event.{Event}
use Rattle.run_journal.specs.Spelling.{event_line, header, journal}
use Rattle.run_journal.specs.Laws.{HasLine}
use Rattle.run_journal.specs.ReaderState.{ReaderState}
use Rattle.run_journal.specs.Reading.{at_start, HasLines, ReadsEvent, ReadsEnd}

-- events are read, one after the other
abbrev pub Reads : ReaderState → List Event → ReaderState → Type 0
Reads old [] new = old ≡ new
Reads old (e ∷ events) new = (middle : ReaderState) × ReadsEvent old middle e × Reads middle events new

-- events are read from the beginning of a text, and then its end
abbrev pub ReadsWhole : List ℕ → List Event → Type 0
ReadsWhole text events = (last : ReaderState) × (end : ReaderState) × Reads (at_start text) events last × ReadsEnd last end

-- a text is read as these events exactly where it is their journal, and each of them has a line
abbrev pub JournalsAreRead : Type 0
JournalsAreRead = (text : List ℕ) (events : List Event) → ReadsWhole text events ↔ ((text ≡ journal events) × All HasLine events)

-- what is left after some events are the lines that follow theirs
abbrev pub PrefixesAreRead : Type 0
PrefixesAreRead =
    (text : List ℕ) (events : List Event) (r : ReaderState) → Reads (at_start text) events r
    → All HasLine events × ((lines : List ℕ) → HasLines r lines ↔ (text ≡ header ++ flat_map event_line events ++ lines))

-- of the lines that were taken one is the header, and each other an event's
abbrev pub LinesAreCounted : Type 0
LinesAreCounted =
    (text : List ℕ) (events : List Event) (r : ReaderState) → Reads (at_start text) events r
    → r.taken ≡ (if length events == 0 then 0 else length events + 1)

-- one event is read next, and one state is after it
abbrev pub EventsAreOne : Type 0
EventsAreOne = (old new other : ReaderState) (e f : Event) → ReadsEvent old new e → ReadsEvent old other f → (e ≡ f) × (new ≡ other)

-- at the end no event is read, and one state is after it
abbrev pub EndsAreOne : Type 0
EndsAreOne =
    (old new other : ReaderState) → ReadsEnd old new
    → ((e : Event) → ReadsEvent old other e → ⊥) × (ReadsEnd old other → new ≡ other)

-- journals are equal only where their events are
abbrev pub JournalsAreApart : Type 0
JournalsAreApart = (events others : List Event) → All HasLine events → All HasLine others → journal events ≡ journal others → events ≡ others
