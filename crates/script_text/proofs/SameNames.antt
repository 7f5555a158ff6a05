-- Modules with the same sites whose names stand for the same have the same scripts.
use Rattle.std.proofs.Common.{◌≡◌, ◌+◌, ◌%◌, ◌^◌, ◌∙◌, ℕ, Bool, if◌then◌else◌, List, [], ◌∷◌, codes, find, Option, Some, None, option_map, Result, Ok, Err, refl, ap, nat_lt}
use Rattle.std.specs.Option.{is_none}
use Rattle.std.specs.Str.{bytes_eq}
use Rattle.poke_base.specs.Text.{words}
use Rattle.module_parts.specs.declared.command.Command.{Command}
use Rattle.module_parts.specs.declared.command.Command.TheVariants as command
use Rattle.module_parts.specs.declared.key.KeyClass.TheVariants.{Jump as JumpKey, Call as CallKey}
use Rattle.module_parts.specs.declared.site.Site.{Site}
use Rattle.module_image.specs.Module.{Module, SameNames, first_of, trace_at}
use Rattle.script_text.specs.declared.refused.ScriptWhy.{ScriptWhy}
use Rattle.script_text.specs.declared.refused.ScriptWhy.TheVariants.{Word, NoCpu, LateCpu, Cpus, Number, Name, Updates, Drops, Turns}
use Rattle.script_text.specs.declared.script.ScriptStep.{ScriptStep}
use Rattle.script_text.specs.Grammar.{Line, Cpu, Inc, Dec, Enable, Disable, Call, Trace, Run, Drop, line_of}
use Rattle.script_text.specs.Lines.{is_passed_over, lines}
use Rattle.script_text.specs.Meaning.{Meaning, Starts, function_named, function_or_null, key_named, meaning, most_turns, site_of, target, updates}
use Rattle.script_text.specs.Script.{ScriptValue, all_drops, all_turns, all_updates, empty_script, go_on, holds, most_drops, most_updates, order, read_from, script, taken, taken_line, taken_unless, with_any, with_line}

-- what scripts are read by is the same: the sites, and what names stand for
pub record IsAlike (m n : Module) : Type 0 where
  pub sites : m.sites ≡ n.sites
  pub functions : SameNames m.functions n.functions
  pub jump_keys : SameNames m.jump_keys n.jump_keys
  pub call_keys : SameNames m.call_keys n.call_keys

-- the trace site of a function is the same
trace_sites : (m n : Module) → IsAlike m n → (function : Option ℕ) → site_of m function ≡ site_of n function
trace_sites m n alike None = refl
trace_sites m n alike (Some function) =
    ap (λ (sites : List Site). first_of (trace_at sites function) (trace_at sites ((function + 4) % 2 ^ 64))) alike.sites

-- so is what a line means
meanings : (m n : Module) → IsAlike m n → (line : Line) → meaning m line ≡ meaning n line
meanings m n alike (Cpu name) = ap (λ (o : Option ℕ). option_map Starts o) (alike.functions name)
meanings m n alike (Inc key) = ap (λ (o : Option ℕ). updates (option_map (λ k. command.Inc k) o)) (alike.jump_keys key)
meanings m n alike (Dec key) = ap (λ (o : Option ℕ). updates (option_map (λ k. command.Dec k) o)) (alike.jump_keys key)
meanings m n alike (Enable key) =
    ap (λ (o : Option ℕ). updates (option_map (λ k. command.Enable k) o)) (alike.jump_keys key)
meanings m n alike (Disable key) =
    ap (λ (o : Option ℕ). updates (option_map (λ k. command.Disable k) o)) (alike.jump_keys key)
meanings m n alike (Call key name) =
    ap (λ (o : Option ℕ). updates (target o (function_or_null m name))) (alike.call_keys key)
    ∙ ap (λ (o : Option ℕ). updates (target (key_named n CallKey key) (if bytes_eq name (codes "-") then Some 0 else o))) (alike.functions name)
meanings m n alike (Trace on name) =
    let same : site_of m (function_named m name) ≡ site_of n (function_named n name) =
    ap (λ (o : Option ℕ). site_of m o) (alike.functions name) ∙ trace_sites m n alike (function_named n name)
    in
    ap
    (λ (o : Option ℕ). updates (if bytes_eq name (codes "*") then Some (command.TraceAll on) else option_map (λ site. command.Trace site on) o))
    same
meanings m n alike (Run turns) = refl
meanings m n alike (Drop place) = refl

-- and the conditions of its refusals
conditions : (m n : Module) → IsAlike m n → (s : ScriptValue) (line : Line) (why : ScriptWhy) → holds m s line why ≡ holds n s line why
conditions m n alike s line Name = ap (λ (o : Option Meaning). is_none o) (meanings m n alike line)
conditions m n alike s line Updates =
    ap (λ (o : Option Meaning). nat_lt most_updates (all_updates (with_any s o).steps)) (meanings m n alike line)
conditions m n alike s line Drops =
    ap (λ (o : Option Meaning). nat_lt most_drops (all_drops (with_any s o).steps)) (meanings m n alike line)
conditions m n alike s line Turns =
    ap (λ (o : Option Meaning). nat_lt most_turns (all_turns (with_any s o).steps)) (meanings m n alike line)
conditions m n alike s line why = refl

-- and the script with one more line
lines_taken : (m n : Module) → IsAlike m n → (s : ScriptValue) (line : Option Line) → taken_line m s line ≡ taken_line n s line
lines_taken m n alike s None = refl
lines_taken m n alike s (Some line) =
    let same : holds m s line ≡ holds n s line = λ i why. conditions m n alike s line why i in
    ap (λ (test : ScriptWhy → Bool). taken_unless (find test order) (with_line m s line)) same
    ∙ ap (λ (o : Option Meaning). taken_unless (find (holds n s line) order) (with_any s o)) (meanings m n alike line)

words_taken : (m n : Module) → IsAlike m n → (s : ScriptValue) (ws : List (List ℕ)) → taken m s ws ≡ taken n s ws
words_taken m n alike s ws =
    ap (λ (r : Result ScriptValue ScriptWhy). if is_passed_over ws then Ok s else r) (lines_taken m n alike s (line_of ws))

-- and all that is read after a line
go_on_alike : (m n : Module) (number : ℕ) (ls : List (List ℕ)) (r : Result ScriptValue ScriptWhy) → ((s : ScriptValue) → read_from m (number + 1) s ls ≡ read_from n (number + 1) s ls) → go_on number r (λ s. read_from m (number + 1) s ls) ≡ go_on number r (λ s. read_from n (number + 1) s ls)
go_on_alike m n number ls (Err why) after = refl
go_on_alike m n number ls (Ok s) after = after s

scripts_from : (m n : Module) → IsAlike m n → (number : ℕ) (s : ScriptValue) (ls : List (List ℕ)) → read_from m number s ls ≡ read_from n number s ls
scripts_from m n alike number s [] = refl
scripts_from m n alike number s (line ∷ ls) =
    ap (λ (r : Result ScriptValue ScriptWhy). go_on number r (λ t. read_from m (number + 1) t ls)) (words_taken m n alike s (words line))
    ∙ go_on_alike m n number ls (taken n s (words line)) (λ t. scripts_from m n alike (number + 1) t ls)

-- so their scripts are the same
pub scripts_alike : (m n : Module) → IsAlike m n → (text : List ℕ) → script m text ≡ script n text
unfolding script
scripts_alike m n alike text = scripts_from m n alike 1 empty_script (lines text)
