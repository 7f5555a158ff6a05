-- The counts of a run, one event after the other.
use Rattle.std.specs.Prelude.{◌≤◌, ℕ, ◌+◌, Bool, true, false, not, if◌then◌else◌}
use Rattle.run_journal.specs.declared.event.Event.{Event}
use Rattle.run_journal.specs.declared.event.Event.TheVariants.{At, Handle}
use Rattle.switching.specs.Choice.{most_events}
use Rattle.bench_run.specs.declared.counts.Counts.{Counts}
use Rattle.bench_run.specs.Counts.{is_breakpoint, is_request, is_return, is_take, is_trap, is_write}

-- an instruction is done at a patched site: by the processor, or by the handler
abbrev pub is_passing : Event → Bool
is_passing (At cpu bytes) = not (is_breakpoint bytes.items)
is_passing (Handle cpu) = true
is_passing _ = false

abbrev pub one_if : Bool → ℕ
one_if is = if is then 1 else 0

-- the counts with one event more
abbrev pub with_event : Counts → Event → Counts
with_event n e = record {
  updates = n.updates + one_if (is_return e);
  writes = n.writes + one_if (is_write e);
  requests = n.requests + one_if (is_request e);
  takes = n.takes + one_if (is_take e);
  passes = n.passes + one_if (is_passing e);
  traps = n.traps + one_if (is_trap e);
  events = n.events + 1;
}

-- none is more than a run has events
pub record AreFew (n : Counts) : Type 0 where
  pub updates : n.updates ≤ most_events
  pub writes : n.writes ≤ most_events
  pub requests : n.requests ≤ most_events
  pub takes : n.takes ≤ most_events
  pub passes : n.passes ≤ most_events
  pub traps : n.traps ≤ most_events
  pub events : n.events ≤ most_events
