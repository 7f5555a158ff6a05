use Rattle.module_laws.proofs.HeldForms.{foreign_hold}
use Rattle.module_laws.proofs.foreign_sites_hold_no_form.Goals as goal

pub returns : goal.returns
returns c = foreign_hold
