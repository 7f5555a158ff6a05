-- What was parted and what is left are all, and there is room for what is left.
use Rattle.std.proofs.Common.{◌≡◌, ◌≤◌, ◌+◌, ◌++◌, map, vec_capacity, vec_len}
use Rattle.std.specs.Vec.Iter.{into_iter_items, into_iter_len}
use Rattle.live_engine.proofs.job.part.Given as goal

abbrev pub invariant-loop-job : goal.invariant-loop-job
invariant-loop-job l =
    record {
      can : (goal.iterator-loop-job).can_next l.job-iterator;
      finite : (goal.iterator-loop-job).is_finite l.job-iterator;
      walks : l.walks.items ++ map (λ job. job.walk) (into_iter_items l.job-iterator) ≡ l.initial.walks.items ++ map (λ job. job.walk) l.fn.jobs.items;
      walks_room : vec_len l.walks + into_iter_len l.job-iterator ≤ vec_capacity l.walks;
      seats_room : vec_len l.seats + into_iter_len l.job-iterator ≤ vec_capacity l.seats;
    }
