use Rattle.module_parts.specs.declared.key.Key.{Key}
use Rattle.module_image.specs.Leads.{key_target}
use Rattle.module_image.specs.Text.{layout_in}
use Rattle.module_image.proofs.Leading.{LeadBelow}
use Rattle.module_image.proofs.aims.bad_key.Given as goal

abbrev pub invariant-loop-key : goal.invariant-loop-key
invariant-loop-key l = LeadBelow (layout_in l.code) (λ (k : Key). key_target k.class k.start) l.keys l.key-index
