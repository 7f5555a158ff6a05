use Rattle.module_parts.specs.declared.site.Site.{Site}
use Rattle.module_image.specs.Leads.{jump_target}
use Rattle.module_image.specs.Text.{layout_in}
use Rattle.module_image.proofs.Leading.{LeadBelow}
use Rattle.module_image.proofs.aims.bad_site.Given as goal

abbrev pub invariant-loop-site : goal.invariant-loop-site
invariant-loop-site l = LeadBelow (layout_in l.code) (λ (s : Site). jump_target s.kind) l.code.sites.now l.site-index
