-- Scripts line by line, for a module with one function, one static key, one static call's key and one trace site.
use Rattle.std.specs.Prelude.{◌≡◌, ℕ, true, false, List, [], ◌∷◌, ◌++◌, None, Some, Result, Ok, Err, codes, replicate, refl}
use Rattle.module_parts.specs.declared.command.Command.TheVariants as command
use Rattle.module_parts.specs.declared.site.SiteKind.TheVariants.{Trace as TraceSite}
use Rattle.module_image.specs.Module.{Module}
use Rattle.script_text.specs.declared.refused.ScriptWhy.{ScriptWhy}
use Rattle.script_text.specs.declared.refused.ScriptWhy.TheVariants.{Word, NoCpu, LateCpu, Cpus, Number, Name, Updates, Drops, Turns}
use Rattle.script_text.specs.declared.script.ScriptStep.TheVariants as step
use Rattle.script_text.specs.Grammar.{Cpu, Inc, Dec, Enable, Disable, Call, Trace, Run, Drop, line_of}
use Rattle.script_text.specs.Lines.{lines}
use Rattle.script_text.specs.Script.{ScriptValue, script}

-- lines that a line feed ends, and a last one without
lines-none : lines [] ≡ []
lines-none = refl

lines-empty : lines (10 ∷ 10 ∷ []) ≡ [] ∷ [] ∷ []
lines-empty = refl

lines-ended : lines (97 ∷ 32 ∷ 98 ∷ 10 ∷ 99 ∷ 10 ∷ []) ≡ (97 ∷ 32 ∷ 98 ∷ []) ∷ (99 ∷ []) ∷ []
lines-ended = refl

lines-cut : lines (97 ∷ 10 ∷ 10 ∷ 99 ∷ []) ≡ (97 ∷ []) ∷ [] ∷ (99 ∷ []) ∷ []
lines-cut = refl

-- each row of the table
abbrev a : List ℕ
a = codes "a"

line_of-cpu : line_of (codes "cpu" ∷ a ∷ []) ≡ Some (Cpu a)
line_of-cpu = refl

line_of-inc : line_of (codes "inc" ∷ a ∷ []) ≡ Some (Inc a)
line_of-inc = refl

line_of-dec : line_of (codes "dec" ∷ a ∷ []) ≡ Some (Dec a)
line_of-dec = refl

line_of-enable : line_of (codes "enable" ∷ a ∷ []) ≡ Some (Enable a)
line_of-enable = refl

line_of-disable : line_of (codes "disable" ∷ a ∷ []) ≡ Some (Disable a)
line_of-disable = refl

line_of-call : line_of (codes "call" ∷ a ∷ codes "-" ∷ []) ≡ Some (Call a (codes "-"))
line_of-call = refl

line_of-trace : line_of (codes "trace" ∷ codes "*" ∷ []) ≡ Some (Trace true (codes "*"))
line_of-trace = refl

line_of-untrace : line_of (codes "untrace" ∷ a ∷ []) ≡ Some (Trace false a)
line_of-untrace = refl

line_of-run : line_of (codes "run" ∷ codes "7" ∷ []) ≡ Some (Run (codes "7"))
line_of-run = refl

line_of-drop : line_of (codes "drop" ∷ codes "7" ∷ []) ≡ Some (Drop (codes "7"))
line_of-drop = refl

-- other words, and other numbers of words
line_of-other : line_of (codes "Cpu" ∷ a ∷ []) ≡ None
line_of-other = refl

line_of-few : line_of (codes "run" ∷ []) ≡ None
line_of-few = refl

line_of-many : line_of (codes "run" ∷ codes "1" ∷ codes "2" ∷ []) ≡ None
line_of-many = refl

line_of-call_one : line_of (codes "call" ∷ a ∷ []) ≡ None
line_of-call_one = refl

line_of-call_three : line_of (codes "call" ∷ a ∷ a ∷ a ∷ []) ≡ None
line_of-call_three = refl

-- the module
abbrev small : Module
small = record {
  base = 0x401000;
  text = [];
  units = [];
  sites = record { at = 0x401004; len = 5; kind = TraceSite; foreign = false } ∷ [];
  keys = [];
  functions = (codes "f", 0x401000) ∷ [];
  jump_keys = (codes "k", 0) ∷ [];
  call_keys = (codes "ck", 1) ∷ [];
}

-- what the lines say, each ended by a line feed
abbrev text_of : List (List ℕ) → List ℕ
text_of [] = []
text_of (line ∷ rest) = line ++ 10 ∷ text_of rest

abbrev says : List (List ℕ) → Result ScriptValue (ℕ × ScriptWhy)
says ls = script small (text_of ls)

abbrev cpu : List ℕ
cpu = codes "cpu f"

-- a script with every command
says-all :
    says (
    codes "# a comment" ∷ [] ∷ cpu ∷ codes " cpu  f " ∷ codes "inc k" ∷ codes "dec k" ∷ codes "enable k" ∷ codes "disable k" ∷ codes "call ck f" ∷ codes "call ck -"
    ∷ codes "trace f" ∷ codes "untrace f" ∷ codes "trace *" ∷ codes "untrace *" ∷ codes "run 1000000" ∷ codes "drop 255" ∷ []
    )
    ≡ Ok (record {
      entries = 0x401000 ∷ 0x401000 ∷ [];
      steps =
          step.Update (command.Inc 0) ∷ step.Update (command.Dec 0) ∷ step.Update (command.Enable 0) ∷ step.Update (command.Disable 0)
          ∷ step.Update (command.Target 1 0x401000) ∷ step.Update (command.Target 1 0) ∷ step.Update (command.Trace 0 true) ∷ step.Update (command.Trace 0 false)
          ∷ step.Update (command.TraceAll true) ∷ step.Update (command.TraceAll false) ∷ step.Run 1000000 ∷ step.Drop 255 ∷ [];
    })
unfolding script
says-all = refl

-- why a line is refused
says-word : says (codes "jump k" ∷ []) ≡ Err (1, Word)
unfolding script
says-word = refl

says-late_cpu : says (cpu ∷ codes "run 1" ∷ codes "cpu g" ∷ []) ≡ Err (3, LateCpu)
unfolding script
says-late_cpu = refl

says-no_cpu : says (codes "inc g" ∷ []) ≡ Err (1, NoCpu)
unfolding script
says-no_cpu = refl

says-cpus : says (replicate 16 cpu ++ codes "cpu g" ∷ []) ≡ Err (17, Cpus)
unfolding script
says-cpus = refl

says-number : says (cpu ∷ codes "run 1000001" ∷ []) ≡ Err (2, Number)
unfolding script
says-number = refl

says-name : says (cpu ∷ codes "inc ck" ∷ []) ≡ Err (2, Name)
unfolding script
says-name = refl

says-updates : says (cpu ∷ replicate 65 (codes "inc k")) ≡ Err (66, Updates)
unfolding script
says-updates = refl

says-drops : says (cpu ∷ replicate 65 (codes "drop 0")) ≡ Err (66, Drops)
unfolding script
says-drops = refl

says-turns : says (cpu ∷ codes "run 999999" ∷ codes "run 2" ∷ []) ≡ Err (3, Turns)
unfolding script
says-turns = refl

-- a script without a `cpu` line: an empty one, one with a comment, and one whose last line has no line feed
says-nothing : says [] ≡ Err (1, NoCpu)
unfolding script
says-nothing = refl

says-comment : says (codes "#cpu f" ∷ []) ≡ Err (2, NoCpu)
unfolding script
says-comment = refl

script-cut : script small (10 ∷ codes "#") ≡ Err (3, NoCpu)
unfolding script
script-cut = refl
