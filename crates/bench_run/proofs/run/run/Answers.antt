-- The run by the rule, event by event, and its end.
use Rattle.std.proofs.Common.{subst, sym}
use Rattle.bench_run.specs.declared.counts.Counts.{Counts}
use Rattle.bench_run.proofs.Running.{Running, running_ends, running_few, running_next, running_smaller}
use Rattle.bench_run.proofs.run.run.Goals as goal

pub add-requires : goal.add-requires
add-requires c =
    running_few c.chosen_prefixes_end.ensures c.args.world.now.image c.args.world.now.script c.args.words.now c.events.world c.events.words c.events.counts c.requires.accepted c.requires.of c.events.invariant

pub events-preserved : goal.events-preserved
events-preserved c =
    subst (λ (n : Counts). Running c.args.world.now.image c.args.world.now.script c.args.words.now c.act.new.self c.choose.new.words n) (sym c.add.ensures)
    (running_next c.args.world.now.image c.args.world.now.script c.args.words.now c.events.world c.act.new.self c.events.words c.choose.new.words c.events.counts c.in-Some.event c.act.new.line.items c.act.result c.events.invariant c.in-Some.ensures c.act.ensures)

pub events-smaller : goal.events-smaller
events-smaller c =
    running_smaller c.chosen_prefixes_end.ensures c.args.world.now.image c.args.world.now.script c.args.words.now c.act.new.self c.choose.new.words c.events.counts c.add.new.self c.in-Some.event c.requires.accepted c.requires.of c.add.ensures
    (running_next c.args.world.now.image c.args.world.now.script c.args.words.now c.events.world c.act.new.self c.events.words c.choose.new.words c.events.counts c.in-Some.event c.act.new.line.items c.act.result c.events.invariant c.in-Some.ensures c.act.ensures)

pub returns : goal.returns
returns c =
    running_ends c.traces_are_switched.ensures c.args.world.now.image c.args.world.now.script c.args.words.now c.events.world c.events.words c.choose.new.words c.events.counts c.requires.accepted c.requires.of c.events.invariant c.in_default.ensures
