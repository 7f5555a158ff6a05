use Rattle.std.proofs.Common.{◌≡◌, ◌≤◌, ◌+◌, ◌*◌, drop}
use Rattle.live_text.specs.Flat.{place}
use Rattle.live_text.proofs.layout.place_of.Given as goal

-- the bytes of the sites so far have lower numbers
abbrev pub invariant-loop-site : goal.invariant-loop-site
invariant-loop-site l =
    (place l.sites l.at ≡ l.before + place (drop l.site-index l.sites) l.at) × (l.before ≤ 5 * l.site-index)
