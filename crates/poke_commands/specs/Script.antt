-- What a script file says of an accepted module, and why one is refused.
use Rattle.std.specs.Prelude.{◌≡◌, ◌<◌, ◌≤◌, ⊤, ℕ, List, length, Ok, Err}
use Rattle.module_image.specs.Module.{Module}
use Rattle.script_text.specs.Laws.{IsScriptOf}
use Rattle.script_text.specs.Script.{ScriptValue, script}
use Rattle.poke_faults.specs.declared.fault.Fault.{Fault}
use Rattle.poke_faults.specs.declared.fault.Fault.TheVariants.{Refused as RefusedFault, Memory}
use Rattle.poke_faults.specs.declared.fault.Refusal.{Refusal}
use Rattle.poke_faults.specs.declared.fault.Refusal.TheVariants.{Script as ScriptRefusal}
use Rattle.poke_faults.specs.declared.script_fault.ScriptRefused.{ScriptRefused}
use Rattle.poke_faults.specs.declared.script_fault.ScriptRefused.TheVariants.{TooLong, Line}

-- how many bytes a script file may have
abbrev pub script_limit : ℕ
script_limit = 65536

-- why a file is refused as a script for a module: it is too long, or its first refused line and why
abbrev pub RefusesScript : Module → List ℕ → ScriptRefused → Type 0
RefusesScript m file TooLong = script_limit < length file
RefusesScript m file (Line line why) = (length file ≤ script_limit) × (script m file ≡ Err (line, why))

-- the bytes are this script of a module; its commands and functions are those of the module
pub record AcceptsScript (m : Module) (file : List ℕ) (s : ScriptValue) : Type 0 where
  pub fits : length file ≤ script_limit
  pub is : script m file ≡ Ok s
  pub of : IsScriptOf m s

-- why a file isn't accepted as a script, as the refusal of a command
abbrev pub RefusesAsScript : Module → List ℕ → Refusal → Type 0
RefusesAsScript m file (ScriptRefusal why) = RefusesScript m file why
RefusesAsScript m file _ = ⊥

-- why bytes aren't accepted as a script: they are refused, or there was no memory
abbrev pub RefusesText : Module → List ℕ → Fault → Type 0
RefusesText m file (RefusedFault why) = RefusesAsScript m file why
RefusesText m file Memory = ⊤
RefusesText m file _ = ⊥
