-- One seat more has its job.
use Rattle.std.proofs.Common.{◌≡◌, ◌∙◌, ◌+◌, ◌<◌, ◌∷◌, sym, ap, drop, take, length, get_or, rules, vec_len}
use Rattle.std.specs.Vec.Iter.{into_iter_items}
use Rattle.live_engine.proofs.ReadyJobs.{entries-more, next-of, ready-more}
use Rattle.live_engine.proofs.job.jobs_of.Goals as goal

pub loop-seat-preserved : goal.loop-seat-preserved
loop-seat-preserved c =
    let jobs = c.loop-seat.jobs in
    let had = c.loop-seat.invariant in
    let pushed = c.push_reserved.ensures in
    let items : into_iter_items c.loop-seat.seat-iterator ≡ c.in-Some.seat ∷ into_iter_items c.next.new.self = search rules in
    let left : drop (vec_len jobs) c.args.seats.items ≡ c.in-Some.seat ∷ into_iter_items c.next.new.self = sym had.left ∙ items in
    let next = next-of c.args.seats.items (vec_len jobs) c.in-Some.seat (into_iter_items c.next.new.self) left in
    let below : vec_len jobs < length c.args.entries.now = search rules in
    let entry : c.in_ok-job.job.entry ≡ get_or c.args.entries.now (vec_len jobs) 0 = c.in_ok-job.ensures.entry ∙ ap (λ n. get_or c.args.entries.now n 0) c.len-number.ensures in
    let long : vec_len c.push_reserved.new.self ≡ vec_len jobs + 1 = pushed.len in
    record {
      can = tt;
      finite = tt;
      left = next.after ∙ ap (λ n. drop n c.args.seats.items) (sym long);
      count = search rules;
      room = search rules;
      entries = entries-more c.args.entries.now (vec_len jobs) 0 jobs.items c.push_reserved.new.self.items c.in_ok-job.job below entry pushed.items had.entries ∙ ap (λ n. take n c.args.entries.now) (sym long);
      ready = λ m text starts seated.
          ready-more m text c.args.turns (vec_len c.args.seats) (vec_len jobs) c.args.entries.now c.args.seats.items (into_iter_items c.next.new.self) c.in-Some.seat jobs.items c.push_reserved.new.self.items c.in_ok-job.job 0 starts seated left below
          (record { seat_is = c.in_ok-job.ensures.seat; entry_is = entry; cpu_is = c.in_ok-job.ensures.cpu ∙ ap (λ n. Rattle.live_engine.specs.LiveCpu.new_cpu (get_or c.args.entries.now n 0)) c.len-number.ensures; empty = c.in_ok-job.ensures.walk; room = c.in_ok-job.ensures.room })
          pushed.items (had.ready m text starts seated);
    }
