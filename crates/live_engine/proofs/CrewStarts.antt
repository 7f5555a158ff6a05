-- Where the processors of a script start.
use Rattle.std.proofs.Common.{◌≡◌, ℕ, List, All, sym, subst}
use Rattle.std.proofs.lemmas.List.Elements.{All-weaker}
use Rattle.module_image.specs.Command.{IsFunction}
use Rattle.module_image.specs.Layout.{IsStart}
use Rattle.module_image.specs.Module.{IsAccepted, Module, layout_of}
use Rattle.module_image.proofs.StartLaws.{functions_start}
use Rattle.script_text.specs.Laws.{IsScriptOf}
use Rattle.script_text.specs.Script.{ScriptValue}

-- each entry of a script of the module is a start
pub entries-start : (m : Module) (script : ScriptValue) (entries : List ℕ) → IsAccepted m → IsScriptOf m script → entries ≡ script.entries → All (IsStart (layout_of m)) entries
entries-start m script entries accepted of same =
    subst (λ (es : List ℕ). All (IsStart (layout_of m)) es) (sym same)
    (All-weaker (IsFunction m) (IsStart (layout_of m)) (λ at is. functions_start m is.0 at accepted is.1) script.entries of.entries)
