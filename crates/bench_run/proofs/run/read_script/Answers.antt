-- The text is the script that is read in the module.
use Rattle.std.proofs.Common.{◌≡◌, Ok, rules}
use Rattle.generated_module.specs.Bench.{bench_script, bench_value}
use Rattle.generated_module.proofs.Refuting.{script-refused-for-memory}
use Rattle.script_text.specs.declared.refused.ScriptError.TheVariants.{NoMemory}
use Rattle.script_text.specs.Script.{script}
use Rattle.bench_run.proofs.run.read_script.Goals as goal

pub prove-unreachable-requires : goal.prove-unreachable-requires
unfolding bench_script
prove-unreachable-requires c =
    let only : c.in-Err.why ≡ NoMemory = script-refused-for-memory (script c.args.image.now bench_script) bench_value c.requires c.in-Err.why c.in-Err.ensures.refused in
    search rules

pub returns-in-Ok-clause-value : goal.returns-in-Ok-clause-value
unfolding bench_script
returns-in-Ok-clause-value c =
    let asked : script c.args.image.now bench_script ≡ Ok bench_value = c.requires in
    let read : script c.args.image.now bench_script ≡ Ok c.in-Ok.script = c.in-Ok.ensures.script in
    cc
