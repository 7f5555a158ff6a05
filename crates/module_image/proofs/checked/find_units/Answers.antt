use Rattle.std.proofs.Common.{IfErr, IfOk, subst}
use Rattle.module_image.specs.Layout.{IsSwept, Layout}
use Rattle.module_image.specs.Sweeping.{IsSweepFault}
use Rattle.module_image.proofs.Joined.{tries-swept}
use Rattle.module_image.proofs.checked.find_units.Goals as goal

pub returns-clause-tried : goal.returns-clause-tried
returns-clause-tried c =
    tries-swept c.args.file.now (λ found. found.items) c.sweep.result c.requires.passed
    (subst (λ (t : Layout). IfOk c.sweep.result (λ found. IsSwept t found.items)) c.requires.laid c.sweep.ensures.swept)
    (subst (λ (t : Layout). IfErr c.sweep.result (IsSweepFault t)) c.requires.laid c.sweep.ensures.failed)
