-- What holds of the rest and of the last job holds of all.
use Rattle.std.proofs.Common.{◌≡◌}
use Rattle.std.proofs.lemmas.List.Elements.{All-push, AllZip-push}
use Rattle.live_engine.specs.declared.job.Job.{Job}
use Rattle.live_engine.specs.LiveRun.{IsDone}
use Rattle.live_engine.proofs.worker.«+fn-run_cpus-join+arg2+run_cpus».Goals as goal

pub returns-clause-done : goal.returns-clause-done
returns-clause-done g t c =
    let j = c.join-rest.ensures in
    rw (c.push_reserved.ensures.items) (All-push (IsDone c.args.image.now c.args.text.now.plan c.args.turns) c.join-rest.result.0.items c.join-rest.result.1 j.first.0 j.second.0)

pub returns-clause-entries : goal.returns-clause-entries
returns-clause-entries g t c =
    let j = c.join-rest.ensures in
    rw (c.in-Some.ensures.items, c.push_reserved.ensures.items)
    (AllZip-push (λ (before after : Job). after.entry ≡ before.entry) c.pop.new.self.items c.join-rest.result.0.items c.in-Some.job c.join-rest.result.1 j.first.1.1.1 j.second.1)
