-- A script from the lines that are left.
use Rattle.std.proofs.Common.{◌≡◌, ◌∙◌, ◌≤◌, ◌+◌, ℕ, List, [], ◌∷◌, length, Result, Ok, Err, refl, sym, ap}
use Rattle.poke_base.specs.Text.{words}
use Rattle.module_image.specs.Module.{Module}
use Rattle.script_text.specs.declared.refused.ScriptError.{ScriptError}
use Rattle.script_text.specs.declared.refused.ScriptError.TheVariants.{Refused, NoMemory}
use Rattle.script_text.specs.declared.refused.ScriptWhy.{ScriptWhy}
use Rattle.script_text.specs.Lines.{lines}
use Rattle.script_text.specs.Refused.{IsLineRefused, IsRefused}
use Rattle.script_text.specs.Script.{ScriptValue, empty_script, finished, go_on, read_from, script, taken}

-- what is left of a text, read from a line on after a script, is what the whole text is; the lines so far had a byte each
pub record IsReading (m : Module) (text rest : List ℕ) (number : ℕ) (s : ScriptValue) : Type 0 where
  pub on : read_from m number s (lines rest) ≡ script m text
  pub counted : number + length rest ≤ length text + 1

pub reading-first : (m : Module) (text : List ℕ) → read_from m 1 empty_script (lines text) ≡ script m text
unfolding script
reading-first m text = refl

-- the first line that is left
pub first_line : (m : Module) (text rest line after : List ℕ) (number : ℕ) (s : ScriptValue) → read_from m number s (lines rest) ≡ script m text → lines rest ≡ line ∷ lines after
    → go_on number (taken m s (words line)) (λ s. read_from m (number + 1) s (lines after)) ≡ script m text
first_line m text rest line after number s on here = ap (read_from m number s) (sym here) ∙ on

-- where it is taken
pub reading-next : (m : Module) (text rest line after : List ℕ) (number : ℕ) (s new : ScriptValue) → read_from m number s (lines rest) ≡ script m text → lines rest ≡ line ∷ lines after
    → taken m s (words line) ≡ Ok new → read_from m (number + 1) new (lines after) ≡ script m text
reading-next m text rest line after number s new on here is =
    ap (λ (r : Result ScriptValue ScriptWhy). go_on number r (λ s. read_from m (number + 1) s (lines after))) (sym is) ∙ first_line m text rest line after number s on here

-- where it is refused
pub reading-refused : (m : Module) (text rest line after : List ℕ) (number : ℕ) (s : ScriptValue) (e : ScriptError) → read_from m number s (lines rest) ≡ script m text
    → lines rest ≡ line ∷ lines after → IsLineRefused number (taken m s (words line)) e → IsRefused (script m text) e
reading-refused m text rest line after number s (Refused n why) on here is =
    sym (first_line m text rest line after number s on here)
    ∙ ap (λ (r : Result ScriptValue ScriptWhy). go_on number r (λ s. read_from m (number + 1) s (lines after))) is.1
    ∙ ap (λ (k : ℕ). Err (k, why)) (sym is.0)
reading-refused m text rest line after number s NoMemory on here is = tt

-- where no line is left
pub reading-ends : (m : Module) (text rest : List ℕ) (number : ℕ) (s : ScriptValue) → read_from m number s (lines rest) ≡ script m text → lines rest ≡ []
    → finished number s ≡ script m text
reading-ends m text rest number s on none = ap (read_from m number s) (sym none) ∙ on
