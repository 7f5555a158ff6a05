-- A patched site is put to the plan's sites, and a foreign one is passed over.
use Rattle.std.proofs.Common.{ap, ◌∙◌}
use Rattle.live_engine.proofs.PlannedSites.{read-passed, read-put}
use Rattle.live_engine.proofs.plan.live_sites.Goals as goal
use Rattle.live_engine.proofs.plan.live_sites.Goals.{then-not-site+in_ok-push, else-not-site}

pub loop-number-preserved : goal.loop-number-preserved
loop-number-preserved c =
    elim c.if-not-site.branch [
      | then-not-site+in_ok-push w ↦ read-put c.args.image.now c.in_ok-keys.keys c.sites.result.now c.sites-in-loop-number.result.now c.loop-number.number _ w.wants-start.result c.loop-number.sites.items c.if-not-site.sites.items c.accepted.ensures c.sites.ensures.sites c.sites-in-loop-number.ensures.sites c.in_ok-keys.ensures.first c.loop-number-test.true w.if-not-site.true w.wants-start.ensures (ap (λ vec. vec.items) w.sites-is ∙ w.in_ok-push.ensures.items) c.loop-number.invariant
      | else-not-site w ↦ read-passed c.args.image.now c.sites.result.now c.sites-in-loop-number.result.now c.loop-number.number _ c.loop-number.sites.items c.if-not-site.sites.items c.sites.ensures.sites c.sites-in-loop-number.ensures.sites c.loop-number-test.true w.if-not-site.false (ap (λ vec. vec.items) w.sites-is) c.loop-number.invariant
    ]
