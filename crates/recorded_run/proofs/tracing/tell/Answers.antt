use Rattle.recorded_run.proofs.Feeding.{acted_fed, dropped_kept, fed_hits, takes_out}
use Rattle.recorded_run.proofs.tracing.tell.Goals as goal

pub returns-in-Hit : goal.returns-in-Hit
returns-in-Hit g c = record {
  fed = λ f h. acted_fed f c.args.acted.now _ _ _ c.in-Hit.is (fed_hits f c.in-Hit.cpu c.in-Hit.site _ _ _ c.feed.ensures h);
}

pub returns-in-Drop : goal.returns-in-Drop
returns-in-Drop g c = record {
  fed = λ f h. acted_fed f c.args.acted.now _ _ _ c.in-Drop.is
      (dropped_kept _ f c.args.tracers.now.items c.drop_at.new.tracers.items c.args.drops.now.items c.push.new.self.items c.in-Drop.place c.ok.result c.drop_at.result c.ok.ensures.value c.push.ensures.items
      (takes_out _ c.args.tracers.now.items c.drop_at.new.tracers.items c.in-Drop.place c.drop_at.result c.drop_at.ensures.found c.drop_at.ensures.closes_up c.drop_at.ensures.total c.drop_at.ensures.missing c.drop_at.ensures.stays) h);
}
