-- The plan's sites so far are the patched ones among the first sites, each with a form that it wants.
use Rattle.live_engine.proofs.PlannedSites.{ArePlanned}
use Rattle.live_engine.proofs.plan.live_sites.Given as goal

abbrev pub invariant-loop-number : goal.invariant-loop-number
invariant-loop-number l = ArePlanned l.image l.number l.sites.items
