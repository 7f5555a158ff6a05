-- What was made is a crew: its plan is the script's, and its processors start at functions.
use Rattle.std.proofs.Common.{◌∙◌, ap, arith, rules, sym, subst}
use Rattle.live_text.specs.declared.plan.LivePlan.{LivePlan}
use Rattle.live_engine.specs.LivePlan.{IsLivePlan, last_bytes}
use Rattle.live_engine.proofs.CrewStarts.{entries-start}
use Rattle.live_engine.proofs.run.Crew.of.Goals as goal

pub returns-clause-crew : goal.returns-clause-crew
returns-clause-crew c =
    let text = c.in_ok-text.ensures in
    let jobs = c.in_ok-jobs.ensures in
    let count = jobs.count in
    let walks = c.in_ok-walks.ensures.capacity in
    let seats = c.in_ok-seats.ensures.capacity in
    record {
      plan = subst (λ (p : LivePlan). IsLivePlan c.args.image.now p) (sym text.plan) c.in_ok-plan.ensures.live;
      own = text.own;
      worker = search rules;
      ready = jobs.ready c.args.image.now c.in_ok-text.text (entries-start c.args.image.now c.args.script.now _ c.accepted.ensures c.requires c.entries-entries.ensures.entries) (record { count_is = search rules; each = text.seats.each });
      last = c.in_ok-last.ensures ∙ ap last_bytes (sym text.plan);
      no_walks = search rules;
      walks_room = omega arith;
      no_seats = search rules;
      seats_room = omega arith;
    }
