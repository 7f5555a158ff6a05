use Rattle.std.proofs.Common.{List, All, arith, false, subst, sym}
use Rattle.std.proofs.lemmas.List.{take-replicate}
use Rattle.std.proofs.lemmas.List.Elements.{All-nil}
use Rattle.poke_batch.specs.declared.patch.Patch.{Patch}
use Rattle.poke_batch.specs.Patch.{IsSpelt}
use Rattle.poke_batch.proofs.batch.Batch.new.Goals as goal

pub invariant_of-result : goal.invariant_of-result
invariant_of-result c = record {
  some_cpus = c.requires.some_cpus;
  most_cpus = c.requires.most_cpus;
  room = omega (arith, c.in_ok-patches.ensures.exact);
  spelt = subst (λ (patches : List Patch). All IsSpelt patches) (sym c.in_ok-patches.ensures.items) (All-nil IsSpelt);
  from = omega arith;
  within = λ active. absurd (cc);
  inside = tt;
  unasked = λ _. take-replicate c.args.cpus 16 false c.requires.most_cpus;
  underway = tt;
}
