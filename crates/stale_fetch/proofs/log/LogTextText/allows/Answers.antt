use Rattle.std.proofs.Common.{◌∙◌, ap}
use Rattle.stale_fetch.specs.Past.{Past, candidates}
use Rattle.stale_fetch.proofs.LogFields.{allowed}
use Rattle.stale_fetch.proofs.log.LogTextText.allows.Goals as goal

pub returns : goal.returns
returns c = λ p h.
    allowed c.deref.result.now c.values.result.items (candidates p c.args.cpu c.args.at) c.args.byte c.contains.result c.deref.ensures.0 (c.values.ensures.values ∙ ap (λ (q : Past). candidates q c.args.cpu c.args.at) h.is) c.contains.ensures.value
