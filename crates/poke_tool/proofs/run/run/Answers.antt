use Rattle.std.proofs.Common.{[], ◌∷◌, inr, refl}
use Rattle.poke_base.specs.declared.host.AskedBy.TheVariants.{Make as AskedMake}
use Rattle.poke_commands.specs.Check.{Accepts, RefusesAsModule}
use Rattle.poke_commands.specs.Command.{Run}
use Rattle.poke_commands.specs.Saying.{FileSays, RunSays, ScriptSays, told_before}
use Rattle.poke_commands.specs.Script.{AcceptsScript, RefusesAsScript}
use Rattle.poke_commands.specs.Feeding.{RunFeeds}
use Rattle.poke_tool.proofs.FeedWays.{run_untold, runs_feed}
use Rattle.poke_tool.proofs.RunWays.{runs_as}
use Rattle.poke_commands.proofs.Sayings.{asks_script, run_asks}
use Rattle.poke_commands.proofs.TwoFiles.{first_fails, second_fails}
use Rattle.poke_commands.proofs.Ways.{at_exit, fault_as, module_refused, script_refused}
use Rattle.poke_tool.proofs.run.run.Goals as goal

pub returns-in_err-image : goal.returns-in_err-image
returns-in_err-image g c =
    let module_name = c.args.module_name.now in
    let script_name = c.args.script_name.now in
    let journal_name = c.args.journal_name.now in
    let seed = c.args.seed in
    let fault = c.in_err-image.field-0.0 in
    record {
      does =
          at_exit (Run module_name script_name journal_name seed) _ _ fault c.from_residual.result c.from_residual.ensures.1
          (first_fails (Run module_name script_name journal_name seed) module_name script_name _ _ Accepts RefusesAsModule fault ((journal_name, AskedMake) ∷ [], refl) c.in_err-image.ensures (λ bytes why holds refused. (bytes, holds, module_refused (λ m s. FileSays (ScriptSays (RunSays journal_name seed) m) (told_before (g.H.Host.outside c.args.host.now) (g.H.Host.outside c.read_module.new.host)) script_name s) bytes why refused)));
      feeds =
          fault_as (RunFeeds module_name script_name journal_name seed _ _ _ _) fault c.from_residual.result c.from_residual.ensures.1
          (run_untold module_name script_name journal_name seed _ _ _ _ _ module_name Accepts RefusesAsModule fault c.in_err-image.ensures);
    }

pub returns-in_err-script : goal.returns-in_err-script
returns-in_err-script g c =
    let module_name = c.args.module_name.now in
    let script_name = c.args.script_name.now in
    let journal_name = c.args.journal_name.now in
    let seed = c.args.seed in
    let m = c.in_ok-image.image in
    let fault = c.in_err-script.field-0.0 in
    record {
      does =
          at_exit (Run module_name script_name journal_name seed) _ _ fault c.from_residual-in_err-script.result c.from_residual-in_err-script.ensures.1
          (second_fails (Run module_name script_name journal_name seed) module_name script_name _ _ _ Accepts RefusesAsModule m (AcceptsScript m) (RefusesAsScript m) fault (record { two = ((journal_name, AskedMake) ∷ [], refl); reads = c.in_ok-image.ensures }) c.in_err-script.ensures.reads
          (λ bytes holds accepts text why holds_too refused. (bytes, holds, inr (m, accepts, (text, holds_too, script_refused (RunSays journal_name seed) m text why refused))))
          (λ bytes holds accepts s some says. asks_script (RunSays journal_name seed) _ module_name script_name bytes m s (λ n other said. run_asks journal_name seed n other s said) some holds accepts says));
      feeds =
          fault_as (RunFeeds module_name script_name journal_name seed _ _ _ _) fault c.from_residual-in_err-script.result c.from_residual-in_err-script.ensures.1
          (run_untold module_name script_name journal_name seed _ _ _ _ _ script_name (AcceptsScript m) (RefusesAsScript m) fault c.in_err-script.ensures.reads);
    }

pub returns : goal.returns
returns g c =
    let module_name = c.args.module_name.now in
    let script_name = c.args.script_name.now in
    let journal_name = c.args.journal_name.now in
    let seed = c.args.seed in
    record {
      does =
          runs_as module_name script_name journal_name seed _ _ _ _ c.in_ok-image.image c.in_ok-script.script _ _ c.run_script.result
          (record { first = record { two = ((journal_name, AskedMake) ∷ [], refl); reads = c.in_ok-image.ensures }; second = c.in_ok-script.ensures.reads })
          c.run_script.ensures;
      feeds =
          runs_feed module_name script_name journal_name seed _ _ _ _ c.in_ok-image.image c.in_ok-script.script _ _ c.run_script.result
          (record { first = record { two = ((journal_name, AskedMake) ∷ [], refl); reads = c.in_ok-image.ensures }; second = c.in_ok-script.ensures.reads })
          c.run_script.ensures;
    }
