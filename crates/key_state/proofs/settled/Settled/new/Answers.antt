use Rattle.std.proofs.Common.{◌∙◌, List, ap, length}
use Rattle.module_parts.specs.declared.site.Site.{Site}
use Rattle.key_state.proofs.Settling.{settled_first}
use Rattle.key_state.proofs.settled.Settled.new.Goals as goal

pub returns-clause-of : goal.returns-clause-of
returns-clause-of c =
    settled_first c.args.image.now _ c.accepted.ensures c.base.ensures.base (c.in_ok-text.ensures.items ∙ c.text.ensures.text) c.in_ok-keys.ensures.first
    (c.in_ok-changes.ensures.room ∙ ap (λ (ss : List Site). length ss) c.sites.ensures.sites)
