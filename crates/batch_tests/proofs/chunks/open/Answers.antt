use Rattle.std.proofs.Common.{◌≡◌, arith, subst}
use Rattle.batch_tests.proofs.ManySites.{AreSites, sites_can_poke}
use Rattle.batch_tests.proofs.chunks.open.Goals as goal

pub fill-requires-clause-ready : goal.fill-requires-clause-ready
fill-requires-clause-ready g c =
    let end : c.loop-site.site ≡ 300 = omega arith in
    sites_can_poke c.args.wrong_from c.loop-site.changes.list (subst (λ n. AreSites n c.loop-site.changes.list) end c.loop-site.invariant.sites)
