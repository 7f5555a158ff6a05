use Rattle.std.proofs.Common.{Err, Ok, refl}
use Rattle.poke_faults.specs.declared.fault.Fault.TheVariants.{Memory, Write}
use Rattle.poke_commands.specs.BenchText.{bench_text}
use Rattle.poke_commands.specs.Command.{Bench}
use Rattle.poke_commands.proofs.Asking.{has_read-none}
use Rattle.poke_commands.proofs.Ways.{at_exit, lacks_memory, prints_said}
use Rattle.poke_commands.proofs.bench.bench.Goals as goal

pub returns-in_err-counts : goal.returns-in_err-counts
returns-in_err-counts g c =
    at_exit (Bench c.args.blocks c.args.seed) _ _ Memory c.from_residual.result c.from_residual.ensures.1
    (lacks_memory (Bench c.args.blocks c.args.seed) 0 _ _ (has_read-none (Bench c.args.blocks c.args.seed) _) tt)

pub returns-in_err-print_bench : goal.returns-in_err-print_bench
returns-in_err-print_bench g c =
    let counts = c.in_ok-counts.counts in
    at_exit (Bench c.args.blocks c.args.seed) _ _ Write c.from_residual-in_err-print_bench.result c.from_residual-in_err-print_bench.ensures.1
    (prints_said (Bench c.args.blocks c.args.seed) 0 _ _ _ (bench_text c.args.blocks c.args.seed counts) (Err c.in_err-print_bench.field-0.0) refl (has_read-none (Bench c.args.blocks c.args.seed) _) c.in_err-print_bench.ensures (counts, c.in_ok-counts.ensures, refl) (record { begins = λ s says. says; coupled = λ s. tt }))

pub returns : goal.returns
returns g c =
    let counts = c.in_ok-counts.counts in
    prints_said (Bench c.args.blocks c.args.seed) 0 _ _ _ (bench_text c.args.blocks c.args.seed counts) (Ok tt) refl (has_read-none (Bench c.args.blocks c.args.seed) _) c.in_ok-print_bench.ensures (counts, c.in_ok-counts.ensures, refl) (record { begins = λ s says. says; coupled = λ s. tt })
