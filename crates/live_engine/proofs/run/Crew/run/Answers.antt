-- The walks are those of the jobs, by number.
use Rattle.live_engine.proofs.CrewWalks.{walks-done}
use Rattle.live_engine.proofs.run.Crew.run.Goals as goal

pub returns-clause-walks : goal.returns-clause-walks
returns-clause-walks g c =
    let j = c.join-patcher.ensures in
    rw (c.part.ensures, c.requires.no_walks)
    (walks-done c.args.image.now c.args.self.text.plan c.args.turns c.args.self.jobs.items c.join-patcher.result.1.items j.second.1.1 j.second.0)
