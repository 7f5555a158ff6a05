-- The byte that was tried leads to the target, so there is one.
use Rattle.std.proofs.Common.{rules}
use Rattle.std.specs.Int.{w8}
use Rattle.insn_forms.proofs.Displacements.{some_none}
use Rattle.insn_forms.proofs.displacement.displacement8.Goals as goal

pub returns-then-target8-to-clause-none : goal.returns-then-target8-to-clause-none
returns-then-target8-to-clause-none c = some_none w8 _ _ _ (search rules)
