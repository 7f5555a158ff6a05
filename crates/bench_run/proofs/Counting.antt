-- Counts over events: what one event more does, and that no count is more than there are events.
use Rattle.std.proofs.Common.{◌≡◌, ◌∙◌, ◌≤◌, ◌+◌, ℕ, Bool, true, false, List, [], ◌∷◌, ◌++◌, length, sym, ap, arith, length-append}
use Rattle.run_journal.specs.declared.event.Event.{Event}
use Rattle.switching.specs.Choice.{most_events}
use Rattle.bench_run.specs.declared.counts.Counts.{Counts}
use Rattle.bench_run.specs.Counts.{how_many, is_request, is_return, is_take, is_trap, is_write}
use Rattle.bench_run.specs.Counting.{AreFew, is_passing, one_if, with_event}

pub how_many_append : {A : Type 0} (is : A → Bool) (xs ys : List A) → how_many is (xs ++ ys) ≡ how_many is xs + how_many is ys
how_many_append is [] ys = omega arith
how_many_append is (x ∷ xs) ys =
    let rest = how_many_append is xs ys in
    omega (arith, rest)

how_many_push : {A : Type 0} (is : A → Bool) (xs : List A) (x : A) (n : ℕ) → n ≡ how_many is xs → n + one_if (is x) ≡ how_many is (xs ++ x ∷ [])
how_many_push is xs x n are =
    let more = how_many_append is xs (x ∷ []) in
    omega (arith, more, are)

one_most : (is : Bool) → one_if is ≤ 1
one_most true = omega arith
one_most false = omega arith

how_many_most : {A : Type 0} (is : A → Bool) (xs : List A) → how_many is xs ≤ length xs
how_many_most is [] = omega arith
how_many_most is (x ∷ xs) =
    let one = one_most (is x) in
    let rest = how_many_most is xs in
    omega (arith, one, rest)

-- the counts of some events, told by the events alone
pub record Counted (journal : List Event) (n : Counts) : Type 0 where
  pub updates : n.updates ≡ how_many is_return journal
  pub writes : n.writes ≡ how_many is_write journal
  pub requests : n.requests ≡ how_many is_request journal
  pub takes : n.takes ≡ how_many is_take journal
  pub passes : n.passes ≡ how_many is_passing journal
  pub traps : n.traps ≡ how_many is_trap journal
  pub events : n.events ≡ length journal

pub counted_next : (events : List Event) (n : Counts) (e : Event) → Counted events n → Counted (events ++ e ∷ []) (with_event n e)
counted_next events n e h = record {
  updates = how_many_push is_return events e n.updates h.updates;
  writes = how_many_push is_write events e n.writes h.writes;
  requests = how_many_push is_request events e n.requests h.requests;
  takes = how_many_push is_take events e n.takes h.takes;
  passes = how_many_push is_passing events e n.passes h.passes;
  traps = how_many_push is_trap events e n.traps h.traps;
  events = ap (λ (k : ℕ). k + 1) h.events ∙ sym (length-append events (e ∷ []));
}

few : (is : Event → Bool) (events : List Event) (n : ℕ) → n ≡ how_many is events → length events ≤ most_events → n ≤ most_events
few is events n are short =
    let most = how_many_most is events in
    omega (arith, most, are, short)

pub few_counted : (events : List Event) (n : Counts) → Counted events n → length events ≤ most_events → AreFew n
few_counted events n h short = record {
  updates = few is_return events n.updates h.updates short;
  writes = few is_write events n.writes h.writes short;
  requests = few is_request events n.requests h.requests short;
  takes = few is_take events n.takes h.takes short;
  passes = few is_passing events n.passes h.passes short;
  traps = few is_trap events n.traps h.traps short;
  events = (let same = h.events in omega (arith, same, short));
}
