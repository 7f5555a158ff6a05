use Rattle.std.proofs.Common.{◌≡◌}
use Rattle.poke_plan.specs.Plan.{to_print}
use Rattle.poke_plan.proofs.Plans.{HasPrinted, steps_left}
use Rattle.poke_plan.proofs.poke.print_poke.Given as goal

abbrev pub invariant-items : goal.invariant-items
invariant-items g l = record {
  one_cpu : l.batch.cpus ≡ 1;
  printed : HasPrinted (g.H.Host.outside l.initial.host) (g.H.Host.outside l.host) (to_print l.initial.batch.update) (to_print l.batch.update);
}

abbrev pub decreases-items : goal.decreases-items
decreases-items g l = steps_left l.batch.update
