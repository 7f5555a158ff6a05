-- What is kept of a script.
use Rattle.script_text.specs.declared.script.Script.TheInside.{Inside}
use Rattle.script_text.specs.Laws.{IsWithinLimits}
use Rattle.script_text.specs.Script.{ScriptValue}

abbrev pub script_of : Inside → ScriptValue
script_of i = record { entries = i.entries.items; steps = i.steps.items }

abbrev pub IsSound : Inside → Type 0
IsSound i = IsWithinLimits (script_of i)
