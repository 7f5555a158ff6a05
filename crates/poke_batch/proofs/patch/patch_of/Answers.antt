use Rattle.std.proofs.Common.{◌∙◌, ap, length, arith}
use Rattle.poke_batch.proofs.Patches.{length-spelled}
use Rattle.poke_batch.proofs.patch.patch_of.Goals as goal

pub returns-clause-spelt : goal.returns-clause-spelt
returns-clause-spelt g c = record {
  code = c.spelled-code.ensures;
  whole = ap length c.spelled-code.ensures ∙ length-spelled c.args.change.new c.args.change.at c.requires.new_spelt;
  below = omega arith;
}
