-- Events that are read one after the other.
use Rattle.std.proofs.Common.{◌≡◌, ◌∙◌, List, [], ◌∷◌, ◌++◌, refl, sym, ap, subst}
use Rattle.run_journal.specs.declared.event.Event.{Event}
use Rattle.run_journal.specs.Journals.{Reads}
use Rattle.run_journal.specs.ReaderState.{ReaderState}
use Rattle.run_journal.specs.Reading.{ReadsEnd, ReadsEvent}
use Rattle.run_journal.proofs.Journals.{ends_are_one, events_are_one}

-- one more event is read
pub reads_push : (old : ReaderState) (events : List Event) (middle new : ReaderState) (e : Event) → Reads old events middle → ReadsEvent middle new e → Reads old (events ++ e ∷ []) new
reads_push old [] middle new e reads next = (new, subst (λ (r : ReaderState). ReadsEvent r new e) (sym reads) next, refl)
reads_push old (f ∷ events) middle new e reads next = (reads.0, reads.1, reads_push reads.0 events middle new e reads.2 next)

-- events that were read of a text to its end begin with those that were read of it so far, and the rest is read after them
pub record ReadsRest (events others : List Event) (reader last : ReaderState) : Type 0 where
  pub rest : List Event
  pub whole : events ≡ others ++ rest
  pub reads : Reads reader rest last

-- after the end no event is read
no_more : (old last end middle : ReaderState) (f : Event) → old ≡ last → ReadsEnd last end → ReadsEvent old middle f → ⊥
no_more old last end middle f same ends next =
    (ends_are_one last end middle ends).0 f (subst (λ (r : ReaderState). ReadsEvent r middle f) same next)

pub reads_rest : (old : ReaderState) (events others : List Event) (last end reader : ReaderState) → Reads old events last → ReadsEnd last end → Reads old others reader → ReadsRest events others reader last
reads_rest old events [] last end reader whole ends so_far = record {
  rest = events;
  whole = refl;
  reads = subst (λ (r : ReaderState). Reads r events last) so_far whole;
}
reads_rest old [] (f ∷ others) last end reader whole ends so_far =
    absurd (no_more old last end so_far.0 f whole ends so_far.1)
reads_rest old (e ∷ events) (f ∷ others) last end reader whole ends so_far =
    let one = events_are_one old whole.0 so_far.0 e f whole.1 so_far.1 in
    let more = reads_rest so_far.0 events others last end reader (subst (λ (r : ReaderState). Reads r events last) one.1 whole.2) ends so_far.2 in
    record {
      rest = more.rest;
      whole = ap (λ (g : Event). g ∷ events) one.0 ∙ ap (λ (es : List Event). f ∷ es) more.whole;
      reads = more.reads;
    }
