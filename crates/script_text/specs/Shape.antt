-- The lines of a script as the program reads them.
use Rattle.script_text.specs.declared.line.ScriptLine.{ScriptLine}
use Rattle.script_text.specs.declared.line.ScriptLine.TheVariants as read
use Rattle.script_text.specs.declared.meaning.Meaning.{Meaning as Meant}
use Rattle.script_text.specs.declared.meaning.Meaning.TheVariants as meant
use Rattle.script_text.specs.declared.refused.ScriptWhy.{ScriptWhy}
use Rattle.script_text.specs.declared.refused.ScriptWhy.TheVariants.{Number, Name}
use Rattle.script_text.specs.Grammar.{Line, Cpu, Inc, Dec, Enable, Disable, Call, Trace, Run, Drop}
use Rattle.script_text.specs.Meaning.{Meaning, Starts, Does}

-- the line that the program read
abbrev pub line_in : ScriptLine → Line
line_in (read.Cpu name) = Cpu name.now
line_in (read.Inc key) = Inc key.now
line_in (read.Dec key) = Dec key.now
line_in (read.Enable key) = Enable key.now
line_in (read.Disable key) = Disable key.now
line_in (read.Call key name) = Call key.now name.now
line_in (read.Trace on name) = Trace on name.now
line_in (read.Run turns) = Run turns.now
line_in (read.Drop place) = Drop place.now

-- what it means
abbrev pub meaning_in : Meant → Meaning
meaning_in (meant.Starts at) = Starts at
meaning_in (meant.Does step) = Does step

-- why a line is refused that means nothing
abbrev pub fault_of : Line → ScriptWhy
fault_of (Run turns) = Number
fault_of (Drop place) = Number
fault_of _ = Name
