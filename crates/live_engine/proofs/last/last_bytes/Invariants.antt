-- The bytes so far and those of the sites that are left are the bytes of all.
use Rattle.std.proofs.Common.{◌≡◌, ◌++◌, drop}
use Rattle.std.specs.List.{flat_map}
use Rattle.live_text.specs.Plan.{chunks_of, form_after}
use Rattle.live_text.specs.declared.plan.LiveSite.{LiveSite}
use Rattle.poke_batch.specs.Poke.{spelled}
use Rattle.live_engine.specs.LivePlan.{last_bytes}
use Rattle.live_engine.proofs.last.last_bytes.Given as goal

abbrev pub invariant-loop-site : goal.invariant-loop-site
invariant-loop-site l =
    l.bytes.items ++ flat_map (λ (s : LiveSite). spelled (form_after (chunks_of l.plan) s.at s.start) s.at) (drop l.site-index l.plan.sites.items) ≡ last_bytes l.plan
