-- A name that stands for something still stands for that.
use Rattle.std.proofs.Common.{sym}
use Rattle.module_names.proofs.Named.{value_of-again}
use Rattle.module_names.proofs.names.Names.add.Goals as goal

pub returns-in-Some-clause-names : goal.returns-in-Some-clause-names
returns-in-Some-clause-names g c = value_of-again c.args.name.now c.args.value c.in-Some.field-0 c.args.self.now (sym c.in-Some.ensures)
