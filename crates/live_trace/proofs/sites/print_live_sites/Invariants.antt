use Rattle.live_trace.proofs.SiteTexts.{SitesPrinted}
use Rattle.live_trace.proofs.sites.print_live_sites.Given as goal

abbrev pub invariant-loop-site : goal.invariant-loop-site
invariant-loop-site g l =
    SitesPrinted l.image.base l.image.text l.image.sites l.bytes l.site-index l.rest (g.H.Host.outside l.initial.host) (g.H.Host.outside l.host)
