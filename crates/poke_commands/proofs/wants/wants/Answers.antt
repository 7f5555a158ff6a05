use Rattle.std.proofs.Common.{[], inr, refl}
use Rattle.poke_commands.specs.Check.{Accepts, RefusesAsModule}
use Rattle.poke_commands.specs.Command.{Wants}
use Rattle.poke_commands.specs.Saying.{FileSays, ScriptSays, WantsSays, told_before}
use Rattle.poke_commands.specs.Script.{AcceptsScript, RefusesAsScript}
use Rattle.poke_commands.specs.Wants.{IsWantsText}
use Rattle.poke_commands.proofs.Sayings.{asks_script, wants_asks}
use Rattle.poke_commands.proofs.TwoFiles.{both_tell, first_fails, second_fails}
use Rattle.poke_commands.proofs.Ways.{at_exit, module_refused, script_refused}
use Rattle.poke_commands.proofs.wants.wants.Goals as goal

pub returns-in_err-image : goal.returns-in_err-image
returns-in_err-image g c =
    let module_name = c.args.module_name.now in
    let script_name = c.args.script_name.now in
    at_exit (Wants module_name script_name) _ _ c.in_err-image.field-0.0 c.from_residual.result c.from_residual.ensures.1
    (first_fails (Wants module_name script_name) module_name script_name _ _ Accepts RefusesAsModule c.in_err-image.field-0.0 ([], refl) c.in_err-image.ensures (λ bytes why holds refused. (bytes, holds, module_refused (λ m s. FileSays (ScriptSays WantsSays m) (told_before (g.H.Host.outside c.args.host.now) (g.H.Host.outside c.read_module.new.host)) script_name s) bytes why refused)))

pub returns-in_err-script : goal.returns-in_err-script
returns-in_err-script g c =
    let module_name = c.args.module_name.now in
    let script_name = c.args.script_name.now in
    let m = c.in_ok-image.image in
    at_exit (Wants module_name script_name) _ _ c.in_err-script.field-0.0 c.from_residual-in_err-script.result c.from_residual-in_err-script.ensures.1
    (second_fails (Wants module_name script_name) module_name script_name _ _ _ Accepts RefusesAsModule m (AcceptsScript m) (RefusesAsScript m) c.in_err-script.field-0.0 (record { two = ([], refl); reads = c.in_ok-image.ensures }) c.in_err-script.ensures.reads
    (λ bytes holds accepts text why holds_too refused. (bytes, holds, inr (m, accepts, (text, holds_too, script_refused WantsSays m text why refused))))
    (λ bytes holds accepts s some says. asks_script WantsSays _ module_name script_name bytes m s (λ n other said. wants_asks n other s said) some holds accepts says))

pub returns : goal.returns
returns g c =
    let module_name = c.args.module_name.now in
    let script_name = c.args.script_name.now in
    let m = c.in_ok-image.image in
    let script = c.in_ok-script.script in
    both_tell (Wants module_name script_name) module_name script_name _ _ _ _ Accepts RefusesAsModule m (AcceptsScript m) (RefusesAsScript m) script (IsWantsText m script) c.print_wants.result (record { two = ([], refl); reads = c.in_ok-image.ensures }) c.in_ok-script.ensures.reads c.print_wants.ensures
    (λ text is bytes holds accepts more holds_too read. (bytes, holds, inr (m, accepts, (more, holds_too, inr (script, read, (text, is, refl)))))) refl (record { begins = λ s says. says; coupled = λ s. tt })
