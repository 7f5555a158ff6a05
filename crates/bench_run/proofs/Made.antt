-- The run of a module with some blocks is the run that is asked for.
use Rattle.std.proofs.Common.{◌≡◌, ℕ, subst}
use Rattle.generated_module.specs.Bench.{bench_value}
use Rattle.module_image.specs.Module.{Module}
use Rattle.script_text.specs.Script.{ScriptValue}
use Rattle.bench_run.specs.declared.counts.Counts.{Counts}
use Rattle.bench_run.specs.Bench.{IsBench}
use Rattle.bench_run.specs.Run.{IsOfBlocks, IsRun}

pub bench_is : (n seed words : ℕ) (m image : Module) (script : ScriptValue) (counts : Counts) → IsOfBlocks n m → image ≡ m → script ≡ bench_value → words ≡ seed → IsRun image script words counts → IsBench n seed counts
bench_is n seed words m image script counts made same is from run =
    let ran : IsRun m bench_value seed counts =
    subst (λ (x : Module). IsRun x bench_value seed counts) same
    (subst (λ (s : ScriptValue). IsRun image s seed counts) is (subst (λ (w : ℕ). IsRun image script w counts) from run)) in
    record {
      plan = made.plan;
      generated = made.generated;
      m = m;
      is_module = made.is_module;
      events = ran.events;
      chosen = ran.chosen;
      are = ran.are;
    }
