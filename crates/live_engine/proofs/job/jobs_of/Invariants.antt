-- The jobs so far are those of the first seats.
use Rattle.std.proofs.Common.{◌≡◌, ◌≤◌, ◌+◌, All, drop, length, map, take, vec_capacity, vec_len}
use Rattle.std.specs.Vec.Iter.{into_iter_items, into_iter_len}
use Rattle.live_text.specs.Own.{AreSeated, TextState}
use Rattle.module_image.specs.Layout.{IsStart}
use Rattle.module_image.specs.Module.{Module, layout_of}
use Rattle.live_engine.specs.LiveRun.{IsReady}
use Rattle.live_engine.proofs.job.jobs_of.Given as goal

abbrev pub invariant-loop-seat : goal.invariant-loop-seat
invariant-loop-seat l =
    record {
      can : (goal.iterator-loop-seat).can_next l.seat-iterator;
      finite : (goal.iterator-loop-seat).is_finite l.seat-iterator;
      left : into_iter_items l.seat-iterator ≡ drop (vec_len l.jobs) l.fn.seats.items;
      count : vec_len l.jobs + into_iter_len l.seat-iterator ≡ length l.entries;
      room : length l.entries ≤ vec_capacity l.jobs;
      entries : map (λ job. job.entry) l.jobs.items ≡ take (vec_len l.jobs) l.entries;
      ready :
          (m : Module) (text : TextState) → All (IsStart (layout_of m)) l.entries → AreSeated text (vec_len l.fn.seats) l.fn.seats.items
          → All (IsReady m text l.turns) l.jobs.items;
    }
