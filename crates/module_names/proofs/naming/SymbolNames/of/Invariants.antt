use Rattle.module_names.proofs.NamesGiven.{AreNamesWith}
use Rattle.module_names.proofs.naming.SymbolNames.of.Given as goal

abbrev pub invariant-loop-i : goal.invariant-loop-i
invariant-loop-i l = AreNamesWith l.index l.keys.jumps.items l.keys.calls.items l.file.symbols l.i l.found
