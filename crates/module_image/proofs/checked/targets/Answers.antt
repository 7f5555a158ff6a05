use Rattle.std.proofs.Common.{rules}
use Rattle.module_image.proofs.Joined.{passes-targets}
use Rattle.module_image.proofs.checked.targets.Goals as goal

pub returns-in-None-clause-tried : goal.returns-in-None-clause-tried
returns-in-None-clause-tried c = passes-targets c.args.file.now c.requires.passed (search rules)
