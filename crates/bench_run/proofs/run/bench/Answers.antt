use Rattle.std.proofs.Common.{◌∙◌}
use Rattle.bench_run.proofs.Made.{bench_is}
use Rattle.bench_run.proofs.run.bench.Goals as goal

pub returns : goal.returns
returns c =
    bench_is c.args.blocks c.args.seed c.from_seed-words.result c.in_ok-image.image c.in_ok-world.world.image c.in_ok-world.world.script c.run.result c.in_ok-image.ensures.made c.in_ok-world.ensures.image (c.in_ok-world.ensures.script ∙ c.in_ok-script.ensures.value) c.from_seed-words.ensures c.run.ensures
