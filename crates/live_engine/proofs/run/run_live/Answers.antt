use Rattle.live_engine.proofs.RunWalks.{run-is}
use Rattle.live_engine.proofs.run.run_live.Goals as goal

pub returns : goal.returns
returns g c =
    run-is c.args.image.now c.args.script.now c.args.turns c.in_ok-crew.crew.text.plan c.in_ok-crew.crew.jobs.items c.run.result c.in_ok-crew.ensures.plan c.in_ok-crew.ensures.entries c.run.ensures.walks c.run.ensures.sites
