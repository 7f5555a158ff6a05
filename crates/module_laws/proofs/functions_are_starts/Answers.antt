use Rattle.module_image.proofs.StartLaws.{functions_start}
use Rattle.module_laws.proofs.functions_are_starts.Goals as goal

pub returns : goal.returns
returns c = functions_start
