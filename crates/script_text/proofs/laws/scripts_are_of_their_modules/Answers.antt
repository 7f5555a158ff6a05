use Rattle.script_text.proofs.OfModules.{scripts_of_modules}
use Rattle.script_text.proofs.laws.scripts_are_of_their_modules.Goals as goal

pub returns : goal.returns
returns c = scripts_of_modules c.names_are_known.ensures c.trace_sites_are_found.ensures
