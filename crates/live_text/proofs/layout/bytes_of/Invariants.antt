use Rattle.std.proofs.Common.{◌≡◌, take}
use Rattle.live_text.specs.Flat.{starts}
use Rattle.live_text.specs.Layout.{AreFirsts}
use Rattle.live_text.proofs.layout.bytes_of.Given as goal

-- the sites so far
abbrev pub invariant-loop-site : goal.invariant-loop-site
invariant-loop-site l =
    AreFirsts (take l.site-index l.sites) l.firsts.items × (l.bytes.items ≡ starts (take l.site-index l.sites))
