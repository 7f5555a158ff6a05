-- What the lines of a script mean in a module.
use Rattle.std.specs.Prelude.{◌&&◌, ℕ, Bool, nat_le, if◌then◌else◌, List, codes, Option, Some, None, option_map}
use Rattle.std.specs.Str.{bytes_eq}
use Rattle.poke_base.specs.Number.{dec_number}
use Rattle.module_parts.specs.declared.command.Command.{Command}
use Rattle.module_parts.specs.declared.command.Command.TheVariants as command
use Rattle.module_parts.specs.declared.key.KeyClass.{KeyClass}
use Rattle.module_parts.specs.declared.key.KeyClass.TheVariants.{Jump as JumpKey, Call as CallKey}
use Rattle.module_image.specs.Module.{Module, names_of, trace_site_of}
use Rattle.module_names.specs.Names.{value_of}
use Rattle.script_text.specs.declared.script.ScriptStep.{ScriptStep}
use Rattle.script_text.specs.declared.script.ScriptStep.TheVariants as step
use Rattle.script_text.specs.Grammar.{Line, Cpu, Inc, Dec, Enable, Disable, Call, Trace, Run, Drop}

-- one more processor, which starts at an address; or one more step
pub data Meaning : Type 0 where
  Starts : ℕ → Meaning
  Does : ScriptStep → Meaning

-- the turns of one `run` line, and the place of a tracer
abbrev pub most_turns : ℕ
most_turns = 1000000

abbrev pub number_in : ℕ → ℕ → Option ℕ → Option ℕ
number_in least most None = None
number_in least most (Some n) = if nat_le least n && nat_le n most then Some n else None

abbrev pub turns_of : List ℕ → Option ℕ
turns_of word = number_in 1 most_turns (dec_number word)

abbrev pub place_of : List ℕ → Option ℕ
place_of word = number_in 0 255 (dec_number word)

-- the key of a class, and the function, that a name stands for
abbrev pub key_named : Module → KeyClass → List ℕ → Option ℕ
key_named m class name = value_of name (names_of m class)

abbrev pub function_named : Module → List ℕ → Option ℕ
function_named m name = value_of name m.functions

-- the function of a `call` line: `-` is the null function, whose address is 0
abbrev pub function_or_null : Module → List ℕ → Option ℕ
function_or_null m name = if bytes_eq name (codes "-") then Some 0 else function_named m name

-- the trace site of a function, where there is such a function
abbrev pub site_of : Module → Option ℕ → Option ℕ
site_of m None = None
site_of m (Some function) = trace_site_of m function

-- a call key's new function, where both are known
abbrev pub target : Option ℕ → Option ℕ → Option Command
target None func = None
target (Some key) None = None
target (Some key) (Some func) = Some (command.Target key func)

-- a `trace` line: `*` stands for all trace sites
abbrev pub traces : Module → Bool → List ℕ → Option Command
traces m on name =
    if bytes_eq name (codes "*") then Some (command.TraceAll on)
    else option_map (λ site. command.Trace site on) (site_of m (function_named m name))

-- the update of a command
abbrev pub updates : Option Command → Option Meaning
updates asked = option_map (λ (c : Command). Does (step.Update c)) asked

-- what a line means, a row each; none where a number is malformed or out of its range, or a name is unknown
abbrev pub meaning : Module → Line → Option Meaning
meaning m (Cpu name) = option_map Starts (function_named m name)
meaning m (Inc key) = updates (option_map (λ n. command.Inc n) (key_named m JumpKey key))
meaning m (Dec key) = updates (option_map (λ n. command.Dec n) (key_named m JumpKey key))
meaning m (Enable key) = updates (option_map (λ n. command.Enable n) (key_named m JumpKey key))
meaning m (Disable key) = updates (option_map (λ n. command.Disable n) (key_named m JumpKey key))
meaning m (Call key name) = updates (target (key_named m CallKey key) (function_or_null m name))
meaning m (Trace on name) = updates (traces m on name)
meaning m (Run turns) = option_map (λ n. Does (step.Run n)) (turns_of turns)
meaning m (Drop place) = option_map (λ n. Does (step.Drop n)) (place_of place)
