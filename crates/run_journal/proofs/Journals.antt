-- Whole journals are read and spelt.
use Rattle.std.proofs.Common.{◌≡◌, ℕ, suc, ◌+◌, ◌<◌, ◌==◌, Bool, true, false, cond, if◌then◌else◌, List, [], ◌∷◌, ◌++◌, length, drop, refl, subst, sym, ap, ◌∙◌, arith, append-nil, append_assoc}
use Rattle.std.specs.List.{All, flat_map}
use Rattle.std.proofs.lemmas.Bool.Decides.{nat_tests}
use Rattle.std.proofs.lemmas.List.Elements.{All-cons, All-head, All-nil, All-tail}
use Rattle.run_journal.specs.declared.event.Event.{Event}
use Rattle.run_journal.specs.Spelling.{event_line, header, journal}
use Rattle.run_journal.specs.Laws.{HasLine}
use Rattle.run_journal.specs.ReaderState.{ReaderState}
use Rattle.run_journal.specs.Reading.{at_start, HasLines, ReadsEvent, ReadsEnd}
use Rattle.run_journal.specs.Journals.{EndsAreOne, EventsAreOne, JournalsAreApart, JournalsAreRead, LinesAreCounted, PrefixesAreRead, Reads, ReadsWhole}
use Rattle.run_journal.proofs.Apart.{lines_are_apart}

-- ---- the lines that are left

-- what is left, by whether nothing was taken
abbrev left : Bool → List ℕ → List ℕ
left start lines = if start then header ++ lines else lines

-- the lines that are left are one text
left_same : (start : Bool) (lines more : List ℕ) → left start lines ≡ left start more → lines ≡ more
left_same true lines more e = ap (drop 10) e
left_same false lines more e = e

has_same : (r : ReaderState) (lines more : List ℕ) → HasLines r lines → HasLines r more → lines ≡ more
has_same r lines more h k = left_same (r.taken == 0) lines more (sym h ∙ k)

-- where a line was taken, all that is left are lines of events
has_rest : (r : ReaderState) (lines : List ℕ) → 0 < r.taken → HasLines r lines → r.rest ≡ lines
has_rest r lines some h =
    let taken : (r.taken == 0) ≡ false = grind (arith, nat_tests) in
    h ∙ ap (λ start. left start lines) taken

rest_has : (r : ReaderState) (lines : List ℕ) → 0 < r.taken → r.rest ≡ lines → HasLines r lines
rest_has r lines some h =
    let taken : (r.taken == 0) ≡ false = grind (arith, nat_tests) in
    h ∙ sym (ap (λ start. left start lines) taken)

-- how many lines were taken after one more
abbrev more_taken : ℕ → ℕ
more_taken taken = if taken == 0 then 2 else taken + 1

more_taken-some : (taken : ℕ) → 0 < more_taken taken
more_taken-some taken = grind (arith, nat_tests)

taken_some : (old new : ReaderState) (e : Event) → ReadsEvent old new e → 0 < new.taken
taken_some old new e h = let some = more_taken-some old.taken in omega (arith, h.taken)

-- ---- from readings to texts

all_have_lines : (old : ReaderState) (events : List Event) (new : ReaderState) → Reads old events new → All HasLine events
all_have_lines old [] new h = All-nil HasLine
all_have_lines old (e ∷ events) new h = All-cons HasLine e events h.1.has_line (all_have_lines h.0 events new h.2)

-- the lines of the events that were read stand before the lines that are left
lines_before : (old : ReaderState) (events : List Event) (new : ReaderState) (lines : List ℕ) → Reads old events new → HasLines new lines
    → HasLines old (flat_map event_line events ++ lines)
lines_before old [] new lines h k = subst (λ (r : ReaderState). HasLines r lines) (sym h) k
lines_before old (e ∷ events) new lines h k =
    let more = lines_before h.0 events new lines h.2 k in
    let rest = has_rest h.0 (flat_map event_line events ++ lines) (taken_some old h.0 e h.1) more in
    h.1.lines ∙ ap (left (old.taken == 0)) (ap (λ l. event_line e ++ l) rest ∙ sym (append_assoc (event_line e) (flat_map event_line events) lines))

-- and what stands after them is left
lines_after : (old : ReaderState) (events : List Event) (new : ReaderState) (lines : List ℕ) → Reads old events new
    → HasLines old (flat_map event_line events ++ lines) → HasLines new lines
lines_after old [] new lines h k = subst (λ (r : ReaderState). HasLines r lines) h k
lines_after old (e ∷ events) new lines h k =
    let same = has_same old (event_line e ++ h.0.rest) ((event_line e ++ flat_map event_line events) ++ lines) h.1.lines k in
    let apart = lines_are_apart e e h.0.rest (flat_map event_line events ++ lines) h.1.has_line h.1.has_line (same ∙ append_assoc (event_line e) (flat_map event_line events) lines) in
    lines_after h.0 events new lines h.2 (rest_has h.0 (flat_map event_line events ++ lines) (taken_some old h.0 e h.1) apart.1)

-- ---- from texts to readings

-- the state after an event
abbrev after_event : ReaderState → List ℕ → ReaderState
after_event old rest = record { rest = rest; taken = more_taken old.taken }

-- lines of events are read
reads_lines : (old : ReaderState) (events : List Event) (lines : List ℕ) → All HasLine events → HasLines old (flat_map event_line events ++ lines)
    → (new : ReaderState) × Reads old events new × HasLines new lines
reads_lines old [] lines all h = (old, refl, h)
reads_lines old (e ∷ events) lines all h =
    let rest = flat_map event_line events ++ lines in
    let middle = after_event old rest in
    let first : ReadsEvent old middle e =
    record {
      has_line = All-head HasLine e events all;
      lines = h ∙ ap (left (old.taken == 0)) (append_assoc (event_line e) (flat_map event_line events) lines);
      taken = refl;
    } in
    let more = reads_lines middle events lines (All-tail HasLine e events all) (rest_has middle rest (more_taken-some old.taken) refl) in
    (more.0, (middle, first, more.1), more.2)

-- the end of a text is read
reads_end : (old : ReaderState) → HasLines old [] → (new : ReaderState) × ReadsEnd old new
reads_end old h = (record { rest = []; taken = if old.taken == 0 then 1 else old.taken }, record { lines = h; nothing = refl; taken = refl })

pub journals_are_read : JournalsAreRead
journals_are_read text events = (read, spelt)
  where
    read : ReadsWhole text events → (text ≡ journal events) × All HasLine events
    read h = (
      lines_before (at_start text) events h.0 [] h.2 h.3.lines ∙ ap (λ l. header ++ l) (append-nil (flat_map event_line events)),
      all_have_lines (at_start text) events h.0 h.2,
    )

    spelt : (text ≡ journal events) × All HasLine events → ReadsWhole text events
    spelt h =
        let last = reads_lines (at_start text) events [] h.1 (h.0 ∙ sym (ap (λ l. header ++ l) (append-nil (flat_map event_line events)))) in
        let end = reads_end last.0 last.2 in
        (last.0, end.0, last.1, end.1)

pub prefixes_are_read : PrefixesAreRead
prefixes_are_read text events r h = (
  all_have_lines (at_start text) events r h,
  λ lines. (
    λ k. lines_before (at_start text) events r lines h k,
    λ k. lines_after (at_start text) events r lines h k,
  ),
)

-- ---- how many lines were taken

counted : (old : ReaderState) (events : List Event) (new : ReaderState) → 0 < old.taken → Reads old events new → new.taken ≡ old.taken + length events
counted old [] new some h = omega (arith, ap (λ (r : ReaderState). r.taken) h)
counted old (e ∷ events) new some h =
    let more = counted h.0 events new (taken_some old h.0 e h.1) h.2 in
    let first : h.0.taken ≡ old.taken + 1 = let taken = h.1.taken in grind (arith, nat_tests) in
    omega arith

pub lines_are_counted : LinesAreCounted
lines_are_counted text [] r h = ap (λ (r : ReaderState). r.taken) (sym h)
lines_are_counted text (e ∷ events) r h =
    let more = counted h.0 events r (taken_some (at_start text) h.0 e h.1) h.2 in
    let first : h.0.taken ≡ 2 = h.1.taken in
    let some : (suc (length events) == 0) ≡ false = grind (arith, nat_tests) in
    let taken : r.taken ≡ suc (length events) + 1 = omega arith in
    taken ∙ sym (ap (λ test. cond test 0 (suc (length events) + 1)) some)

-- ---- one way

-- states are equal where their fields are
same_state : (r s : ReaderState) → r.rest ≡ s.rest → r.taken ≡ s.taken → r ≡ s
same_state r s e f = λ i. record { rest = e i; taken = f i }

pub events_are_one : EventsAreOne
events_are_one old new other e f h k =
    let lines = has_same old (event_line e ++ new.rest) (event_line f ++ other.rest) h.lines k.lines in
    let apart = lines_are_apart e f new.rest other.rest h.has_line k.has_line lines in
    (apart.0, same_state new other apart.1 (h.taken ∙ sym k.taken))

pub ends_are_one : EndsAreOne
ends_are_one old new other h = (
  λ e k. absurd (cc (has_same old [] (event_line e ++ other.rest) h.lines k.lines)),
  λ k. same_state new other (h.nothing ∙ sym k.nothing) (h.taken ∙ sym k.taken),
)

-- lines of events are equal only where the events are
lines_apart : (events others : List Event) → All HasLine events → All HasLine others → flat_map event_line events ≡ flat_map event_line others → events ≡ others
lines_apart [] [] all each e = refl
lines_apart [] (f ∷ others) all each e = absurd (cc e)
lines_apart (e ∷ events) [] all each same = absurd (cc same)
lines_apart (e ∷ events) (f ∷ others) all each same =
    let apart = lines_are_apart e f (flat_map event_line events) (flat_map event_line others) (All-head HasLine e events all) (All-head HasLine f others each) same in
    let more = lines_apart events others (All-tail HasLine e events all) (All-tail HasLine f others each) apart.1 in
    λ i. apart.0 i ∷ more i

pub journals_are_apart : JournalsAreApart
journals_are_apart events others all each e = lines_apart events others all each (ap (drop 10) e)
