use Rattle.std.proofs.Common.{ℕ, List, ◌∷◌, ◌++◌, [], subst, sym, ap, ◌∙◌, arith}
use Rattle.stale_fetch.specs.ByteSet.{IsByteSet}
use Rattle.stale_fetch.proofs.ByteSets.{one_set}
use Rattle.stale_fetch.proofs.values.one_value.Goals as goal

pub returns-clause-each_once : goal.returns-clause-each_once
returns-clause-each_once c =
    subst IsByteSet (sym (c.push.ensures.items ∙ ap (λ (xs : List ℕ). xs ++ c.args.byte ∷ []) c.new-values.ensures)) (one_set c.args.byte (omega arith))
