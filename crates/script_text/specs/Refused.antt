-- What a refusal says.
use Rattle.std.specs.Prelude.{◌≡◌, ℕ, ⊤, Result, Err}
use Rattle.script_text.specs.declared.refused.ScriptError.{ScriptError}
use Rattle.script_text.specs.declared.refused.ScriptError.TheVariants.{Refused, NoMemory}
use Rattle.script_text.specs.declared.refused.ScriptWhy.{ScriptWhy}
use Rattle.script_text.specs.Script.{ScriptValue}

-- the script is refused at this line for this reason; out of memory may come at any line
abbrev pub IsRefused : Result ScriptValue (ℕ × ScriptWhy) → ScriptError → Type 0
IsRefused answer (Refused line why) = answer ≡ Err (line, why)
IsRefused answer NoMemory = ⊤

-- the line with a number is refused for this reason
abbrev pub IsLineRefused : ℕ → Result ScriptValue ScriptWhy → ScriptError → Type 0
IsLineRefused number answer (Refused line why) = (line ≡ number) × (answer ≡ Err why)
IsLineRefused number answer NoMemory = ⊤
